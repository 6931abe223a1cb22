use Rattle.std.proofs.Common.{inr}
use Rattle.kf_core.specs.declared.key.Node.TheVariants.{Dir}
use Rattle.kf_groups.proofs.Directories.{idle, restored}
use Rattle.kf_groups.proofs.Older.{keeps_on}
use Rattle.kf_groups.proofs.Turns.{made_keeps, stays}
use Rattle.kf_groups.proofs.directory.create_directory.Goals as goal

pub returns-in-Err-clause-refused : goal.returns-in-Err-clause-refused
returns-in-Err-clause-refused g c = inr (
  c.create.new.self,
  c.create_groups.new.editor,
  c.in_ok-key.key,
  c.in-Err.refusal,
  c.in_ok-key.ensures.accepted,
  c.in-Err.ensures.refused,
  c.give_up.ensures.took,
  c.give_up.ensures.counted,
)

pub returns-in-Err-clause-restored : goal.returns-in-Err-clause-restored
returns-in-Err-clause-restored g c =
    restored g.N.Naming.table c.args.editor.now c.create.new.self c.args.dir c.in_ok-key.key c.args.name.now
    c.state.ensures.whole c.in_ok-key.ensures.next c.in_ok-key.ensures.accepted
    c.create_groups.new.editor c.give_up.new.editor c.args.groups.now c.in-Err.refusal c.give_up.result
    c.in-Err.ensures.refused c.give_up.ensures.took
    (stays g.N.Naming.table c.args.editor.now c.create.new.self c.args.dir c.in_ok-key.key c.args.name.now Dir
    c.state.ensures.whole c.in_ok-key.ensures.next c.in_ok-key.ensures.accepted
    c.create_groups.new.editor.state.tree c.give_up.new.editor.state.tree c.create_groups.ensures.others c.give_up.ensures.older)
    c.give_up.ensures.counted

pub returns-in-Err-clause-others : goal.returns-in-Err-clause-others
returns-in-Err-clause-others g c =
    stays g.N.Naming.table c.args.editor.now c.create.new.self c.args.dir c.in_ok-key.key c.args.name.now Dir
    c.state.ensures.whole c.in_ok-key.ensures.next c.in_ok-key.ensures.accepted
    c.create_groups.new.editor.state.tree c.give_up.new.editor.state.tree c.create_groups.ensures.others c.give_up.ensures.older

pub returns-clause-made : goal.returns-clause-made
returns-clause-made g c = (c.create.new.self, c.in_ok-key.ensures.accepted, c.in_default.ensures.made)

pub returns-clause-idle : goal.returns-clause-idle
returns-clause-idle g c =
    idle g.N.Naming.table c.args.editor.now c.create.new.self c.args.dir c.in_ok-key.key c.args.name.now
    c.state.ensures.whole c.in_ok-key.ensures.next c.in_ok-key.ensures.accepted
    c.create_groups.new.editor.state.tree c.create_groups.ensures.others

pub returns-clause-others : goal.returns-clause-others
returns-clause-others g c =
    keeps_on c.args.editor.now.state.tree c.create.new.self.state.tree c.create_groups.new.editor.state.tree
    (made_keeps g.N.Naming.table c.args.editor.now c.create.new.self c.args.dir c.in_ok-key.key c.args.name.now Dir
    c.state.ensures.whole c.in_ok-key.ensures.next c.in_ok-key.ensures.accepted) c.create_groups.ensures.others
