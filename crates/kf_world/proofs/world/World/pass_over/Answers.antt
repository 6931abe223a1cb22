-- The slot is taken, and those below it were passed over before.
use Rattle.std.proofs.Common.{inl, inr, arith, subst, sym}
use Rattle.std.proofs.lemmas.Bool.Decides.{eqb_tells}
use Rattle.kf_core.specs.Bare.{BareWorld}
use Rattle.kf_world.specs.Bounded.{BoundedWorld, IsFree}
use Rattle.kf_world.proofs.world.World.pass_over.Goals as goal

pub invariant_of-self : goal.invariant_of-self
invariant_of-self c =
    let kept = c.self.invariant in
    let world : BareWorld = record { slots = c.self.inside.slots; callers = c.self.inside.callers.items } in
    let taken : ¬ IsFree world c.args.slot = subst (λ (b : BoundedWorld). ¬ IsFree b.world c.args.slot) (sym c.self.view_is) c.requires.taken in
    record {
      safe = kept.safe;
      few = kept.few;
      as_long = kept.as_long;
      counted = kept.counted;
      covered = (
        omega (arith, kept.covered.0, c.raise.ensures.as_many.0),
        omega (arith, kept.covered.1, c.raise.ensures.as_many.1),
      );
      skipped = λ slot one s f. elim (c.raise.ensures.skips slot s) [
        | inl below ↦ elim (eqb_tells slot c.args.slot) [
          | inl e ↦ taken (subst (λ n. IsFree world n) e.1 f)
          | inr n ↦ (let ne = n.1 in kept.skipped slot one (inl (omega (arith, below, ne, c.if-slot-self.true))) f)
        ]
        | inr before ↦ kept.skipped slot one before f
      ];
    }
