-- The caller that is read is the one of the event.
use Rattle.std.proofs.Common.{ap}
use Rattle.kf_core.specs.declared.event.Event.TheVariants.{Show}
use Rattle.kf_world.specs.Bounded.{BoundedWorld}
use Rattle.kf_world.proofs.Events.{found, show_from, show_step, happens}
use Rattle.kf_world.proofs.world.World.show.Goals as goal

pub put_phase-requires-clause-there : goal.put_phase-requires-clause-there
put_phase-requires-clause-there c =
    let is = found _ _ c.args.id c.index.result.now _ (ap (λ (b : BoundedWorld). b.world.callers) c.self.view_is) c.index.ensures c.requires.may.1.1 in
    show_from _ c.requires.may.0 c.args.id c.index.result.now.key c.index.result.now.phase is c.requires.may.1

pub put_phase-requires-clause-step : goal.put_phase-requires-clause-step
put_phase-requires-clause-step c =
    let is = found _ _ c.args.id c.index.result.now _ (ap (λ (b : BoundedWorld). b.world.callers) c.self.view_is) c.index.ensures c.requires.may.1.1 in
    (Show c.args.id, show_step _ c.requires.may.0 c.args.id c.index.result.now.key c.index.result.now.phase is c.requires.may.1)

pub returns : goal.returns
returns c =
    let is = found _ _ c.args.id c.index.result.now _ (ap (λ (b : BoundedWorld). b.world.callers) c.self.view_is) c.index.ensures c.requires.may.1.1 in
    record { step = happens _ _ _ _ (show_step _ c.requires.may.0 c.args.id c.index.result.now.key c.index.result.now.phase is c.requires.may.1) c.put_phase.ensures }
