-- The caller of the event is drained, so it still holds the slot.
use Rattle.std.proofs.Common.{ap}
use Rattle.kf_core.specs.declared.event.Event.TheVariants.{Unlink}
use Rattle.kf_world.specs.Bounded.{BoundedWorld}
use Rattle.kf_world.proofs.Events.{found, unlink_step, unlink_taken, happens}
use Rattle.kf_world.proofs.world.World.unlink.Goals as goal

pub put_marks-requires-clause-step : goal.put_marks-requires-clause-step
put_marks-requires-clause-step c =
    let is = found _ _ c.args.id c.index.result.now _ (ap (λ (b : BoundedWorld). b.world.callers) c.self.view_is) c.index.ensures c.requires.may.1.1 in
    (Unlink c.args.id, unlink_step _ c.requires.may.0 c.args.id c.index.result.now.key c.index.result.now.phase is c.requires.may.1)

pub put_marks-requires-clause-taken : goal.put_marks-requires-clause-taken
put_marks-requires-clause-taken c =
    let is = found _ _ c.args.id c.index.result.now _ (ap (λ (b : BoundedWorld). b.world.callers) c.self.view_is) c.index.ensures c.requires.may.1.1 in
    unlink_taken _ c.requires.may.0 c.args.id c.index.result.now.key c.index.result.now.phase is c.requires.may.1

pub returns : goal.returns
returns c =
    let is = found _ _ c.args.id c.index.result.now _ (ap (λ (b : BoundedWorld). b.world.callers) c.self.view_is) c.index.ensures c.requires.may.1.1 in
    record { step = happens _ _ _ _ (unlink_step _ c.requires.may.0 c.args.id c.index.result.now.key c.index.result.now.phase is c.requires.may.1) c.put_marks.ensures }
