-- The parts of a text between its slashes.
use Rattle.std.proofs.Common.{◌≡◌, ℕ, ◌+◌, ◌-◌, ◌≤◌, List, [], ◌∷◌, Bool, true, false, Some, None, length, take, drop, sym, ap, ◌∙◌, refl, arith, position, cond}
use borrow.Author.Tests.{ltb-true, ltb-false}
use Rattle.std.specs.List.{position_or_len, slice_split}
use Rattle.std.proofs.lemmas.List.{take_rest}
use Rattle.std.proofs.lemmas.List.Sums.{fails_before_first}
use Rattle.std.proofs.lemmas.List.Splits.{slice_split_first, slice_split_none}

some_of : (b : Bool) (n at : ℕ) → Some at ≡ cond b (Some n) None → (n ≡ at) × (b ≡ true)
some_of true n at e = (cc, refl)
some_of false n at e = absurd (cc)

none_of : (b : Bool) (n : ℕ) → None ≡ cond b (Some n) None → b ≡ false
none_of true n e = absurd (cc)
none_of false n e = refl

-- the parts of a text are the first part, and then the parts of the rest
pub split_found : (p : ℕ → Bool) (xs : List ℕ) (at : ℕ) → Some at ≡ position p xs
    → slice_split p xs ≡ take at xs ∷ slice_split p (take (length xs - (at + 1)) (drop (at + 1) xs))
split_found p xs at e =
    let (same, inside) = some_of _ (position_or_len p xs) at e in
    slice_split_first p xs 0 (ltb-true _ _ inside)
    ∙ ap (λ k. take k xs ∷ slice_split p (drop (k + 1) xs)) same
    ∙ ap (λ l. take at xs ∷ slice_split p l) (sym (take_rest xs (at + 1)))

-- if no item passes the test, the whole is one part
pub split_none : (p : ℕ → Bool) (xs : List ℕ) → None ≡ position p xs → slice_split p xs ≡ xs ∷ []
split_none p xs e =
    let far : length xs ≤ position_or_len p xs = ltb-false _ _ (none_of _ (position_or_len p xs) e) in
    slice_split_none p xs (λ k d inside. fails_before_first p xs k d (omega arith))
