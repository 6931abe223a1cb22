-- A caller that holds a slot holds the last key of that slot.
use Rattle.std.proofs.Common.{◌<◌, ◌≤◌, length, ap, ◌∙◌, subst, arith, ◌≡◌, sym}
use Rattle.std.proofs.lemmas.Bool.Decides.{Decides-ltb, Decides-eqb}
use Rattle.kf_core.specs.Safe.{Safe}
use Rattle.std.specs.Prelude.{slice_get, Some}
use Rattle.kf_world.specs.Bounded.{BoundedWorld, holds}
use Rattle.kf_core.proofs.Lists.{past_end}
use Rattle.kf_world.proofs.Kept.{none_holds, other_holds}
use Rattle.kf_world.proofs.CallerCounts.{held_exact}
use Rattle.kf_world.proofs.world.World.is_held.Goals as goal

pub returns-then-state-key : goal.returns-then-state-key
returns-then-state-key c =
    let safe = subst (λ (b : BoundedWorld). Safe b.world) c.self.view_is c.self.invariant.safe in
    let is = subst (λ l. slice_get l c.args.key.slot ≡ Some c.in-Some.state) (ap (λ (b : BoundedWorld). b.world.slots) c.self.view_is) (sym c.get.ensures.known ∙ c.in-Some.is) in
    let exact = held_exact c.args.self.now.world c.args.key safe (c.in-Some.state, is, c.if-state-key.true) in
    let same = c.counts_of.ensures.holds in (
      (λ told. let some : 0 < c.counts_of.result.holds = (Decides-ltb 0 c.counts_of.result.holds).0 told in exact.0 (omega arith)),
      (λ held. let some : 1 ≤ holds c.args.self.now.world c.args.key.slot = exact.1 held in (Decides-ltb 0 c.counts_of.result.holds).1 (omega arith)),
    )

pub returns-else-state-key : goal.returns-else-state-key
returns-else-state-key c =
    let safe = subst (λ (b : BoundedWorld). Safe b.world) c.self.view_is c.self.invariant.safe in
    let is = subst (λ l. slice_get l c.args.key.slot ≡ Some c.in-Some.state) (ap (λ (b : BoundedWorld). b.world.slots) c.self.view_is) (sym c.get.ensures.known ∙ c.in-Some.is) in (
      (λ told. absurd (c.if-state-key.false ((Decides-eqb _ _).0 told))),
      (λ held. absurd (other_holds c.args.self.now.world c.args.key c.in-Some.state safe is c.if-state-key.false held)),
    )

pub returns-in-None : goal.returns-in-None
returns-in-None c =
    let safe = subst (λ (b : BoundedWorld). Safe b.world) c.self.view_is c.self.invariant.safe in
    let past = subst (λ xs. length xs ≤ c.args.key.slot) (ap (λ (b : BoundedWorld). b.world.slots) c.self.view_is) (past_end _ _ (sym c.get.ensures.known ∙ c.in-None.is)) in
    ((λ f. cc), (λ held. absurd (none_holds c.args.self.now.world c.args.key safe past held)))
