-- A list that is not empty is its first item and then the others.
use Rattle.std.proofs.Common.{◌≡◌, ◌∷◌, ℕ, List, [], get_or, drop, refl}
use mathlib.Core.Bool.{false≢true}
use Rattle.kf_core.specs.declared.key.Key.{Key}
use Rattle.kf_index.specs.Pairs.{Pairs}
use Rattle.kf_index.proofs.part.Part.split_first.Goals as goal

whole : (all later : Pairs) (first : List ℕ × Key) → ¬ (all ≡ []) → ((other : List ℕ × Key) → first ≡ get_or all 0 other)
    → later ≡ drop 1 all → all ≡ first ∷ later
whole [] later first some is rest = absurd (some refl)
whole (x ∷ xs) later first some is rest = let same = is x in cc

pub returns-clause-split : goal.returns-clause-split
returns-clause-split c =
    whole _ _ _ (λ none. false≢true (c.if-is_empty.ensures.known.1 none)) c.at-first.ensures.read c.from.ensures.left
