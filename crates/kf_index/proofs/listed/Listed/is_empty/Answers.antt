-- Nothing is left if the part is empty and there are no chunks.
use Rattle.std.proofs.Common.{◌≡◌, Bool, false, List, [], ◌∷◌, ◌++◌, length, sym, ap, ◌∙◌, refl, arith, rules}
use Rattle.std.specs.Prelude.{IsTrue, ◌↔◌, ◌==◌}
use mathlib.Core.Bool.{false≢true}
use Rattle.kf_index.specs.Pairs.{Pairs}
use Rattle.kf_index.specs.Chunks.{joined, HaveSome}
use Rattle.kf_index.proofs.listed.Listed.is_empty.Goals as goal

none_left : (part : Pairs) (chunks : List Pairs) → part ++ joined chunks ≡ [] → part ≡ []
none_left [] chunks e = refl
none_left (x ∷ part) chunks e = absurd (omega (arith, ap (λ (l : Pairs). length l) e))

nonzero : (c : Pairs) (cs : List Pairs) → (length (c ∷ cs) == 0) ≡ false
nonzero c cs = search rules

both_empty : (part : Pairs) (chunks : List Pairs) (b : Bool) → HaveSome chunks → part ≡ [] → b ≡ (length chunks == 0)
    → IsTrue b ↔ (part ++ joined chunks ≡ [])
both_empty part [] b some p is = (λ _. rw p refl, λ _. is)
both_empty part (c ∷ cs) b some p is =
    (λ t. absurd (false≢true (sym (nonzero c cs) ∙ sym is ∙ t)), λ e. absurd (some 0 [] (omega arith) (none_left c cs (rw p at e))))

not_empty : (part : Pairs) (chunks : List Pairs) (b : Bool) → (IsTrue b ↔ (part ≡ [])) → b ≡ false → IsTrue b ↔ (part ++ joined chunks ≡ [])
not_empty part chunks b known is = (λ t. absurd (false≢true (sym is ∙ t)), λ e. known.1 (none_left part chunks e))

pub returns-then-is_empty : goal.returns-then-is_empty
returns-then-is_empty c =
    rw (← c.self.view_is) (record { known = both_empty _ _ _ c.self.invariant.0 (c.is_empty.ensures.known.0 c.if-is_empty.true) c.is_empty-then-is_empty.ensures })

pub returns-else-is_empty : goal.returns-else-is_empty
returns-else-is_empty c = rw (← c.self.view_is) (record { known = not_empty c.self.inside.part c.self.inside.later.now _ c.is_empty.ensures.known c.if-is_empty.false })
