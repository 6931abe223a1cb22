use Rattle.std.proofs.Common.{◌∙◌}
use Rattle.kf_shared.proofs.Receipts.{are_of}
use Rattle.kf_groups.proofs.Dooms.{doom_refused, ordered}
use Rattle.kf_groups.proofs.taking_back.doom.Goals as goal

pub returns-in-Ok-clause-tables : goal.returns-in-Ok-clause-tables
returns-in-Ok-clause-tables g c =
    are_of g.N.Naming.table c.hold.new.self.master c.in_ok-hold.hold c.in-Ok.holds.items
    (c.in_ok-hold.ensures.words.table ∙ c.state.ensures.whole.tied.same_table) c.in_ok-hold.ensures.hold.same_table c.in-Ok.ensures.holds

pub returns-in-Ok-clause-ordered : goal.returns-in-Ok-clause-ordered
returns-in-Ok-clause-ordered g c =
    ordered g.N.Naming.table c.args.editor.now c.hold.new.self c.args.key c.in_ok-hold.hold c.in_ok-hold.ensures.state c.in_ok-hold.ensures.hold
    c.in-Ok.holds.items c.in-Ok.ensures.order

pub returns-in-Err-clause-refused : goal.returns-in-Err-clause-refused
returns-in-Err-clause-refused g c =
    doom_refused c.args.editor.now c.hold.new.self c.args.key c.in_ok-hold.ensures.state c.in_ok-hold.ensures.words c.in_ok-hold.ensures.claims
    c.doom.new.self c.in_ok-hold.hold c.in-Err.refusal c.in_ok-hold.ensures.hold.key_is c.in_ok-hold.ensures.pinned c.in-Err.ensures.same c.in-Err.ensures.refused
