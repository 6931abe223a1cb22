-- The caller is drained and its node is not linked.
use Rattle.std.proofs.Common.{refl, sym, ◌∙◌}
use Rattle.kf_core.specs.declared.caller.Phase.TheVariants.{Drained}
use Rattle.kf_core.specs.declared.event.Event.TheVariants.{Part}
use Rattle.kf_world.proofs.Events.{told_caller, happens}
use Rattle.kf_world.proofs.world.World.part.Goals as goal

pub put_phase-requires-clause-there : goal.put_phase-requires-clause-there
put_phase-requires-clause-there c =
    let there = told_caller _ c.in-Some-default-Drained.key _ (rw c.in-Some-default-Drained.field-0-1-is at c.in-Some-default-Drained.ensures.known) in
    (Drained, there, (refl, refl, refl))

pub put_phase-requires-clause-step : goal.put_phase-requires-clause-step
put_phase-requires-clause-step c =
    let there = told_caller _ c.in-Some-default-Drained.key _ (rw c.in-Some-default-Drained.field-0-1-is at c.in-Some-default-Drained.ensures.known) in
    (Part c.args.id, (record { key = c.in-Some-default-Drained.key; there = there; gone = sym c.is_linked.ensures ∙ c.if-is_linked.false }, refl))

pub returns-clause-step : goal.returns-clause-step
returns-clause-step c =
    let there = told_caller _ c.in-Some-default-Drained.key _ (rw c.in-Some-default-Drained.field-0-1-is at c.in-Some-default-Drained.ensures.known) in
    happens _ _ _ _ (record { key = c.in-Some-default-Drained.key; there = there; gone = sym c.is_linked.ensures ∙ c.if-is_linked.false }, refl) c.put_phase.ensures
