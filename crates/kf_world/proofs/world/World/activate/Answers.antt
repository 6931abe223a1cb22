-- The marks change as the event says.
use Rattle.std.proofs.Common.{refl}
use Rattle.kf_core.specs.declared.event.Event.TheVariants.{Rise}
use Rattle.kf_world.proofs.Events.{linked_now, marks_within}
use Rattle.kf_world.proofs.world.World.activate.Goals as goal

pub put_marks-requires-clause-step : goal.put_marks-requires-clause-step
put_marks-requires-clause-step c = (Rise c.args.key, (c.requires.may.1.0, refl))

pub put_marks-requires-clause-taken : goal.put_marks-requires-clause-taken
put_marks-requires-clause-taken c = linked_now c.args.self.now.world c.args.key _ (marks_within c.args.self.now.world c.args.key _ c.requires.may.1.0)
