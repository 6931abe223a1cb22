use Rattle.std.proofs.Common.{[], ◌∷◌, ◌++◌, sym, ◌∙◌, arith}
use Rattle.std.specs.Option.{option_to_list}
use Rattle.kf_shared.proofs.Finished.{all_finished, finishing_tables, finishing_waited, is_empty, none_finished, of_rest_option, one_turn}
use Rattle.kf_shared.proofs.NextTurns.{of_back}
use Rattle.kf_shared.proofs.tree.SharedTree.finish_rest.Goals as goal

pub loop-init : goal.loop-init
loop-init g c = (none_finished (option_to_list c.args.drained ++ c.args.holds.items) c.args.receipts.items, c.requires.room)

pub returns-in_default-clause-tables : goal.returns-in_default-clause-tables
returns-in_default-clause-tables g c =
    let table = g.N.Naming.table in
    (finishing_tables table (option_to_list c.args.drained ++ c.args.holds.items) c.args.receipts.items c.loop.receipts.items (option_to_list c.loop.drained ++ c.loop.holds.items)
    c.requires.receipts (of_rest_option table c.args.drained c.args.holds.items c.requires.drained c.requires.holds) c.loop.invariant.0).0

pub returns-in_default-clause-owners : goal.returns-in_default-clause-owners
returns-in_default-clause-owners g c =
    let none = is_empty c.wait_first.new.holds.items (sym c.wait_first.new.holds.ok.0 ∙ c.in_default.ensures.none) in
    (all_finished (option_to_list c.args.drained ++ c.args.holds.items) c.args.receipts.items c.loop.receipts.items (option_to_list c.loop.drained ++ c.loop.holds.items) c.wait_first.new.holds.items
    c.loop.invariant.0 c.in_default.ensures.waited none).1

pub returns-in_default-clause-finished : goal.returns-in_default-clause-finished
returns-in_default-clause-finished g c =
    let none = is_empty c.wait_first.new.holds.items (sym c.wait_first.new.holds.ok.0 ∙ c.in_default.ensures.none) in
    (all_finished (option_to_list c.args.drained ++ c.args.holds.items) c.args.receipts.items c.loop.receipts.items (option_to_list c.loop.drained ++ c.loop.holds.items) c.wait_first.new.holds.items
    c.loop.invariant.0 c.in_default.ensures.waited none).0

pub turn-drained-requires-clause-table : goal.turn-drained-requires-clause-table
turn-drained-requires-clause-table g c =
    let table = g.N.Naming.table in
    let w = c.in-Some-wait_first in
    let f = finishing_waited (option_to_list c.args.drained ++ c.args.holds.items) c.args.receipts.items c.loop.receipts.items (option_to_list c.loop.drained ++ c.loop.holds.items) (w.first ∷ c.wait_first.new.holds.items) c.loop.invariant.0 w.ensures.waited in
    (finishing_tables table (option_to_list c.args.drained ++ c.args.holds.items) c.args.receipts.items c.loop.receipts.items (w.first ∷ c.wait_first.new.holds.items)
    c.requires.receipts (of_rest_option table c.args.drained c.args.holds.items c.requires.drained c.requires.holds) f).1 0 w.first (omega arith)

pub turn-drained-requires-clause-holds : goal.turn-drained-requires-clause-holds
turn-drained-requires-clause-holds g c =
    let table = g.N.Naming.table in
    let w = c.in-Some-wait_first in
    let f = finishing_waited (option_to_list c.args.drained ++ c.args.holds.items) c.args.receipts.items c.loop.receipts.items (option_to_list c.loop.drained ++ c.loop.holds.items) (w.first ∷ c.wait_first.new.holds.items) c.loop.invariant.0 w.ensures.waited in
    of_back table (w.first ∷ []) c.wait_first.new.holds.items
    (finishing_tables table (option_to_list c.args.drained ++ c.args.holds.items) c.args.receipts.items c.loop.receipts.items (w.first ∷ c.wait_first.new.holds.items)
    c.requires.receipts (of_rest_option table c.args.drained c.args.holds.items c.requires.drained c.requires.holds) f).1

pub turn-drained-requires-clause-receipts : goal.turn-drained-requires-clause-receipts
turn-drained-requires-clause-receipts g c =
    let table = g.N.Naming.table in
    (finishing_tables table (option_to_list c.args.drained ++ c.args.holds.items) c.args.receipts.items c.loop.receipts.items (option_to_list c.loop.drained ++ c.loop.holds.items)
    c.requires.receipts (of_rest_option table c.args.drained c.args.holds.items c.requires.drained c.requires.holds) c.loop.invariant.0).0

pub loop-preserved : goal.loop-preserved
loop-preserved g c =
    let w = c.in-Some-wait_first in
    let t = c.turn-drained in (
      one_turn (option_to_list c.args.drained ++ c.args.holds.items) c.args.receipts.items c.loop.receipts.items (w.first ∷ c.wait_first.new.holds.items) t.new.receipts.items (option_to_list t.result ++ t.new.holds.items) t.ensures.turned.0
          (finishing_waited (option_to_list c.args.drained ++ c.args.holds.items) c.args.receipts.items c.loop.receipts.items (option_to_list c.loop.drained ++ c.loop.holds.items) (w.first ∷ c.wait_first.new.holds.items) c.loop.invariant.0 w.ensures.waited)
          t.ensures.turned.1 t.ensures.turned.2,
      t.ensures.room,
    )
