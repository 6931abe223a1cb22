-- The caller hides its node, and nobody has a reference.
use Rattle.std.proofs.Common.{refl}
use Rattle.kf_core.specs.declared.caller.Phase.TheVariants.{Hiding}
use Rattle.kf_core.specs.declared.event.Event.TheVariants.{LookHidden}
use Rattle.kf_world.proofs.Events.{told_caller, happens}
use Rattle.kf_world.proofs.world.World.look_hidden.Goals as goal

pub put_phase-requires-clause-there : goal.put_phase-requires-clause-there
put_phase-requires-clause-there c =
    let there = told_caller _ c.in-Some-default-Hiding.key _ (rw c.in-Some-default-Hiding.field-0-1-is at c.in-Some-default-Hiding.ensures.known) in
    (Hiding, there, (refl, refl, refl))

pub put_phase-requires-clause-step : goal.put_phase-requires-clause-step
put_phase-requires-clause-step c =
    let there = told_caller _ c.in-Some-default-Hiding.key _ (rw c.in-Some-default-Hiding.field-0-1-is at c.in-Some-default-Hiding.ensures.known) in
    (LookHidden c.args.id, (record { key = c.in-Some-default-Hiding.key; there = there; unused = c.if-not-is_unused.ensures.0 refl }, refl))

pub returns-clause-step : goal.returns-clause-step
returns-clause-step c =
    let there = told_caller _ c.in-Some-default-Hiding.key _ (rw c.in-Some-default-Hiding.field-0-1-is at c.in-Some-default-Hiding.ensures.known) in
    happens _ _ _ _ (record { key = c.in-Some-default-Hiding.key; there = there; unused = c.if-not-is_unused.ensures.0 refl }, refl) c.put_phase.ensures
