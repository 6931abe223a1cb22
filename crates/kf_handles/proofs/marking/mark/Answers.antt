use Rattle.std.proofs.Common.{◌≡◌, ◌∙◌, None, rules}
use Rattle.kf_tree.specs.Causes.{doom_cause}
use Rattle.kf_shared.proofs.Receipts.{are_of}
use Rattle.kf_handles.proofs.Refusals.{by_hold}
use Rattle.kf_handles.proofs.marking.mark.Goals as goal

pub returns-in-Err-clause-refused : goal.returns-in-Err-clause-refused
returns-in-Err-clause-refused g c =
    let none : doom_cause c.args.locked.now.state.tree c.args.locked.now.state.root c.args.key ≡ None = search rules in
    by_hold c.args.locked.now c.hold.new.self c.memory_last.new.locked c.args.key c.in-Err.refusal c.memory_last.result c.requires none
    c.hold.ensures.state c.in-Err.ensures.refused c.memory_last.ensures.other c.memory_last.ensures.memory

pub returns-in-Ok-doom-clause-tables : goal.returns-in-Ok-doom-clause-tables
returns-in-Ok-doom-clause-tables g c =
    are_of g.N.Naming.table c.hold.new.self.master c.in-Ok.hold c.in-Ok-doom.holds.items
    (c.hold.ensures.words.table ∙ c.state.ensures.whole.tied.same_table) c.in-Ok.ensures.hold.same_table c.in-Ok-doom.ensures.holds
