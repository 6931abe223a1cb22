-- The caller that is read is the one of the event, and its next phase depends on whether the node is live.
use Rattle.std.proofs.Common.{ap, sym, ◌∙◌, true, false}
use Rattle.kf_core.specs.declared.event.Event.TheVariants.{Enter}
use Rattle.kf_world.specs.Bounded.{BoundedWorld}
use Rattle.kf_world.proofs.Events.{found, enter_from, tried_step}
use Rattle.kf_world.proofs.world.World.enter.Goals as goal

pub put_phase-requires-clause-there : goal.put_phase-requires-clause-there
put_phase-requires-clause-there c =
    let is = found _ _ c.args.id c.index.result.now _ (ap (λ (b : BoundedWorld). b.world.callers) c.self.view_is) c.index.ensures c.requires.may.1.2 in
    enter_from _ c.requires.may.0 c.args.id c.index.result.now.key c.index.result.now.phase is c.requires.may.1

pub put_phase-requires-clause-step : goal.put_phase-requires-clause-step
put_phase-requires-clause-step c =
    let is = found _ _ c.args.id c.index.result.now _ (ap (λ (b : BoundedWorld). b.world.callers) c.self.view_is) c.index.ensures c.requires.may.1.2 in
    (Enter c.args.id, tried_step _ c.requires.may.0 c.args.id c.index.result.now.key c.index.result.now.phase is false (sym c.if-not-is_live.true ∙ c.is_live.ensures) c.requires.may.1)

pub put_phase-requires-2-clause-there : goal.put_phase-requires-2-clause-there
put_phase-requires-2-clause-there c =
    let is = found _ _ c.args.id c.index.result.now _ (ap (λ (b : BoundedWorld). b.world.callers) c.self.view_is) c.index.ensures c.requires.may.1.2 in
    enter_from _ c.requires.may.0 c.args.id c.index.result.now.key c.index.result.now.phase is c.requires.may.1

pub put_phase-requires-2-clause-step : goal.put_phase-requires-2-clause-step
put_phase-requires-2-clause-step c =
    let is = found _ _ c.args.id c.index.result.now _ (ap (λ (b : BoundedWorld). b.world.callers) c.self.view_is) c.index.ensures c.requires.may.1.2 in
    (Enter c.args.id, tried_step _ c.requires.may.0 c.args.id c.index.result.now.key c.index.result.now.phase is true (sym c.if-not-is_live.false ∙ c.is_live.ensures) c.requires.may.1)
