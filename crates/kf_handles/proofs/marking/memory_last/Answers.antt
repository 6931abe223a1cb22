use Rattle.std.proofs.Common.{◌≡◌, inr, refl, rules, subst, true}
use Rattle.kf_core.specs.Tree.{Tree, in_subtree}
use Rattle.kf_handles.proofs.marking.memory_last.Goals as goal

-- the node that the tour has reached is in the subtree of the top
pub returns-then-is_full-clause-memory : goal.returns-then-is_full-clause-memory
returns-then-is_full-clause-memory g c = λ memory.
    let below = c.below.invariant in
    let here : in_subtree c.below.locked.state.tree c.args.top c.below.tour.key ≡ true =
    subst (λ k. in_subtree c.below.locked.state.tree k c.below.tour.key ≡ true) below.top below.passed.1.up_to.below in
    inr (
      refl,
      (
        c.below.tour.key,
        subst (λ (t : Tree). in_subtree t c.args.top c.below.tour.key ≡ true) below.same.tree here,
        c.is_full.ensures.full (search rules),
      ),
    )
