-- The parts of a text between its slashes.
use Rattle.std.proofs.Common.{◌==◌, ◌≡◌, ℕ, ◌+◌, ◌-◌, ◌≤◌, List, [], ◌∷◌, Bool, true, false, Some, None, length, take, drop, sym, ap, ◌∙◌, refl, arith, position, cond}
use Rattle.std.proofs.Common.{inl, inr}
use Rattle.std.proofs.lemmas.Bool.Decides.{eqb_tells}
use borrow.Author.Tests.{ltb-true, ltb-false}
use Rattle.std.specs.List.{position_or_len, slice_split, onto_first}
use Rattle.kf_core.specs.Paths.{is_slash, is_empty}
use Rattle.kf_tree.specs.Paths.{front, final}
use Rattle.std.proofs.lemmas.List.{take_rest}
use Rattle.std.proofs.lemmas.List.Sums.{fails_before_first}
use Rattle.std.proofs.lemmas.List.Splits.{slice_split_first, slice_split_none}

some_of : (b : Bool) (n at : ℕ) → Some at ≡ cond b (Some n) None → (n ≡ at) × (b ≡ true)
some_of true n at e = (cc, refl)
some_of false n at e = absurd (cc)

none_of : (b : Bool) (n : ℕ) → None ≡ cond b (Some n) None → b ≡ false
none_of true n e = absurd (cc)
none_of false n e = refl

-- the first part is what comes before the first separator, and the others are the parts of what comes after
-- it
pub split_found : (p : ℕ → Bool) (xs : List ℕ) (at : ℕ) → Some at ≡ position p xs
    → slice_split p xs ≡ take at xs ∷ slice_split p (take (length xs - (at + 1)) (drop (at + 1) xs))
split_found p xs at e =
    let (same, inside) = some_of _ (position_or_len p xs) at e in
    slice_split_first p xs 0 (ltb-true _ _ inside)
    ∙ ap (λ k. take k xs ∷ slice_split p (drop (k + 1) xs)) same
    ∙ ap (λ l. take at xs ∷ slice_split p l) (sym (take_rest xs (at + 1)))

-- without a separator, the whole text is one part
pub split_none : (p : ℕ → Bool) (xs : List ℕ) → None ≡ position p xs → slice_split p xs ≡ xs ∷ []
split_none p xs e =
    let far : length xs ≤ position_or_len p xs = ltb-false _ _ (none_of _ (position_or_len p xs) e) in
    slice_split_none p xs (λ k d inside. fails_before_first p xs k d (omega arith))

-- there is at least one part
pub some_part : (p : ℕ → Bool) (xs : List ℕ) → (part : List ℕ) × (parts : List (List ℕ)) × (slice_split p xs ≡ part ∷ parts)
some_part p [] = ([], [], refl)
some_part p (x ∷ xs) = elim (p x) as (λ b. (part : List ℕ) × (parts : List (List ℕ)) × (cond b ([] ∷ slice_split p xs) (onto_first x (slice_split p xs)) ≡ part ∷ parts)) [
  | true ↦ ([], slice_split p xs, refl)
  | false ↦ let (part, parts, e) = some_part p xs in (x ∷ part, parts, ap (onto_first x) e)
]

pub front_more : (p : ℕ → Bool) (name xs : List ℕ) → front (name ∷ slice_split p xs) ≡ name ∷ front (slice_split p xs)
front_more p name xs = let (part, parts, e) = some_part p xs in ap (λ l. front (name ∷ l)) e ∙ sym (ap (λ l. name ∷ front l) e)

pub final_more : (p : ℕ → Bool) (name xs : List ℕ) → final (name ∷ slice_split p xs) ≡ final (slice_split p xs)
final_more p name xs = let (part, parts, e) = some_part p xs in ap (λ l. final (name ∷ l)) e ∙ sym (ap final e)

pub is_empty-length : (name : List ℕ) → (length name == 0) ≡ true → is_empty name ≡ true
is_empty-length [] e = refl
is_empty-length (byte ∷ name) e = elim (eqb_tells (length (byte ∷ name)) 0) [
  | inl (is, none) ↦ absurd (omega (arith, none))
  | inr (is, some) ↦ absurd (let bad : true ≡ false = sym e ∙ is in cc)
]

-- all parts except the last are the first part, and then all parts of the rest except its last
pub front_is : (text name rest : List ℕ) → slice_split is_slash text ≡ name ∷ slice_split is_slash rest → front (slice_split is_slash text) ≡ name ∷ front (slice_split is_slash rest)
front_is text name rest e = ap front e ∙ front_more is_slash name rest
