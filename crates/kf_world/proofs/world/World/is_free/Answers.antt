-- Whether a slot is free follows from its state and its count of holds.
use Rattle.std.proofs.Common.{◌≤◌, length, ap, sym, ◌∙◌, subst, ◌≡◌}
use Rattle.std.specs.Prelude.{slice_get, Some}
use Rattle.kf_world.specs.Bounded.{BoundedWorld}
use Rattle.kf_core.proofs.Lists.{past_end}
use Rattle.kf_world.proofs.Kept.{free_exact, none_free}
use Rattle.kf_world.proofs.world.World.is_free.Goals as goal

pub returns-in-Some : goal.returns-in-Some
returns-in-Some c =
    let is = subst (λ l. slice_get l c.args.slot ≡ Some c.in-Some.state) (ap (λ (b : BoundedWorld). b.world.slots) c.self.view_is) (sym c.get.ensures.known ∙ c.in-Some.is) in
    let exact = free_exact c.args.self.now.world c.args.slot c.in-Some.state is in (
      (λ told. let p = c.may_be_given.ensures.0 told in exact.0 (p.0, p.1, sym c.counts_of.ensures.holds ∙ p.2)),
      (λ free. let p = exact.1 free in c.may_be_given.ensures.1 (p.0, p.1, c.counts_of.ensures.holds ∙ p.2)),
    )

pub returns-in-None : goal.returns-in-None
returns-in-None c =
    let past = subst (λ xs. length xs ≤ c.args.slot) (ap (λ (b : BoundedWorld). b.world.slots) c.self.view_is) (past_end _ _ (sym c.get.ensures.known ∙ c.in-None.is)) in
    ((λ f. cc), (λ free. absurd (none_free c.args.self.now.world c.args.slot past free)))
