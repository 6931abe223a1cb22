-- The marks change as the event says.
use Rattle.std.proofs.Common.{refl}
use Rattle.std.specs.Prelude.{[]}
use Rattle.std.proofs.lemmas.Option.{slice_get_within}
use Rattle.kf_core.specs.declared.key.Node.TheVariants.{Dir}
use Rattle.kf_core.specs.declared.event.Event.TheVariants.{Born}
use Rattle.kf_world.proofs.Events.{linked_now}
use Rattle.kf_world.proofs.world.World.born.Goals as goal

pub put_marks-requires-clause-step : goal.put_marks-requires-clause-step
put_marks-requires-clause-step c = (Born c.args.key c.args.key [] Dir, (c.requires.may, refl))

pub put_marks-requires-clause-taken : goal.put_marks-requires-clause-taken
put_marks-requires-clause-taken c = linked_now _ c.args.key _ (slice_get_within _ c.args.key.slot _ c.requires.may.unlinked)
