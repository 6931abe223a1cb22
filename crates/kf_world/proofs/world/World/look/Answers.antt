-- The caller waits, its node is doomed, and nobody has a reference.
use Rattle.std.proofs.Common.{refl}
use Rattle.kf_core.specs.declared.event.Event.TheVariants.{Look}
use Rattle.kf_world.proofs.Events.{told_caller, happens}
use Rattle.kf_world.proofs.world.World.look.Goals as goal

pub put_phase-requires-clause-there : goal.put_phase-requires-clause-there
put_phase-requires-clause-there c = (c.in-Some.phase, told_caller _ c.in-Some.key c.in-Some.phase c.in-Some.ensures.known, (refl, refl, refl))

pub put_phase-requires-clause-step : goal.put_phase-requires-clause-step
put_phase-requires-clause-step c =
    let sees = c.if-not-sees_drain.ensures.0 refl in
    (Look c.args.id, (record { key = c.in-Some.key; phase = c.in-Some.phase; there = told_caller _ c.in-Some.key c.in-Some.phase c.in-Some.ensures.known; waits = sees.0; doomed = sees.1; unused = sees.2 }, refl))

pub returns-clause-step : goal.returns-clause-step
returns-clause-step c =
    let sees = c.if-not-sees_drain.ensures.0 refl in
    happens _ _ _ _ (record { key = c.in-Some.key; phase = c.in-Some.phase; there = told_caller _ c.in-Some.key c.in-Some.phase c.in-Some.ensures.known; waits = sees.0; doomed = sees.1; unused = sees.2 }, refl) c.put_phase.ensures
