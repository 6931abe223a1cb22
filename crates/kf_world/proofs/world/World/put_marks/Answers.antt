-- The change is a step, and the slot is not free after it.
use Rattle.std.proofs.Common.{sym, subst}
use Rattle.kf_core.specs.Steps.{BareStep, with_marks}
use Rattle.kf_world.specs.Bounded.{BoundedWorld, IsFree}
use Rattle.kf_world.proofs.Kept.{marks_kept}
use Rattle.kf_world.proofs.world.World.put_marks.Goals as goal

pub invariant_of-self : goal.invariant_of-self
invariant_of-self c =
    rw c.set.ensures.set (marks_kept _ c.args.key c.args.marks c.self.inside.counts c.self.inside.hint c.self.invariant c.requires.step.0
    (subst (λ (b : BoundedWorld). BareStep b.world c.requires.step.0 (with_marks b.world c.args.key c.args.marks)) (sym c.self.view_is) c.requires.step.1)
    (subst (λ (b : BoundedWorld). ¬ IsFree (with_marks b.world c.args.key c.args.marks) c.args.key.slot) (sym c.self.view_is) c.requires.taken))
