-- The number that digits spell.
use Rattle.std.proofs.Common.{◌≡◌, ℕ, ◌+◌, ◌-◌, ◌*◌, ◌<◌, ◌≤◌, List, [], ◌∷◌, ◌++◌, fold, length, take, drop, get_or, arith, refl, sym, ap, ◌∙◌, add-one, take-append-drop, Some, None, nat_le, if◌then◌else◌, inl, inr}
use Rattle.std.proofs.lemmas.Bool.Decides.{leb_tells}
use Rattle.std.proofs.Math.Seq.{take-suc}
use Rattle.kf_script.specs.Requests.{number_of}

-- the number that these digits spell when they are appended to those of a number
abbrev number_from : ℕ → List ℕ → ℕ
number_from number digits = fold (λ number digit. number * 10 + (digit - 48)) number digits

from-append : (number : ℕ) (xs ys : List ℕ) → number_from number (xs ++ ys) ≡ number_from (number_from number xs) ys
from-append number [] ys = refl
from-append number (x ∷ xs) ys = from-append (number * 10 + (x - 48)) xs ys

from-grows : (number : ℕ) (xs : List ℕ) → number ≤ number_from number xs
from-grows number [] = omega arith
from-grows number (x ∷ xs) = let later = from-grows (number * 10 + (x - 48)) xs in omega arith

-- one more digit
pub number_of-more : (digits : List ℕ) (i d : ℕ) → i < length digits → number_of (take (i + 1) digits) ≡ number_of (take i digits) * 10 + (get_or digits i d - 48)
number_of-more digits i d h =
    let longer : take (i + 1) digits ≡ take i digits ++ get_or digits i d ∷ [] = rw add-one (take-suc digits i d h) in
    ap number_of longer ∙ from-append 0 (take i digits) (get_or digits i d ∷ [])

-- the digits that follow do not make the number smaller
pub number_of-front : (digits : List ℕ) (i : ℕ) → number_of (take i digits) ≤ number_of digits
number_of-front digits i =
    let split = ap number_of (sym (take-append-drop i digits)) ∙ from-append 0 (take i digits) (drop i digits) in
    let grows = from-grows (number_of (take i digits)) (drop i digits) in
    omega (arith, split, grows)

-- a number above the greatest one gives none
pub none_above : (number greatest : ℕ) → greatest < number → None ≡ (if nat_le number greatest then Some number else None)
none_above number greatest h = elim (leb_tells number greatest) [
  | inl (is, below) ↦ absurd (omega arith)
  | inr (is, above) ↦ rw is refl
]
