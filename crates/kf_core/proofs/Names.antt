-- A name without a fault is lawful, and a lawful one is without a fault.
use Rattle.std.proofs.Common.{◌≡◌, ℕ, zero, suc, Bool, true, false, not, ◌||◌, eqb, leb, List, [], ◌∷◌, length, Option, None, sym, refl, arith}
use mathlib.Core.Bool.{false≢true}
use Rattle.std.specs.List.{Contains}
use Rattle.std.specs.Str.{bytes_eq}
use Rattle.std.proofs.lemmas.Option.{none-some}
use Rattle.std.proofs.lemmas.Bool.{eqb-true, eq-eqb, leb-true, le-leb, or_right}
use Rattle.std.proofs.lemmas.Slice.Eq.{bytes_eq-Decides}
use Rattle.kf_core.specs.declared.refusal.Refusal.{Refusal}
use Rattle.kf_core.specs.Refusals.{unless, first_cause}
use Rattle.kf_core.specs.Names.{IsLawfulName, has_byte, name_fault}

-- if there is no cause, the first test passes, and there is no cause later
passed : (b : Bool) (refusal : Refusal) (causes : List (Option Refusal)) → first_cause (unless b refusal ∷ causes) ≡ None → (b ≡ true) × (first_cause causes ≡ None)
passed true refusal causes h = (refl, h)
passed false refusal causes h = absurd (none-some refusal (sym h))

not_true : (b : Bool) → not b ≡ true → b ≡ true → ⊥
not_true true h k = false≢true h
not_true false h k = false≢true k

not_from : (b : Bool) → (b ≡ true → ⊥) → not b ≡ true
not_from true h = absurd (h refl)
not_from false h = refl

has_of_contains : (name : List ℕ) (byte : ℕ) → Contains name byte → has_byte name byte ≡ true
has_of_contains [] byte has = absurd (omega (arith, has.1))
has_of_contains (b ∷ name) byte (zero, low, is) = rw (eq-eqb b byte is)
has_of_contains (b ∷ name) byte (suc k, low, is) = or_right _ _ (has_of_contains name byte (k, omega (arith, low), is))

contains_of_has : (name : List ℕ) (byte : ℕ) → has_byte name byte ≡ true → Contains name byte
contains_of_has [] byte h = absurd (false≢true h)
contains_of_has (b ∷ name) byte h =
    elim (eqb b byte) as (λ t. eqb b byte ≡ t → (t || has_byte name byte) ≡ true → Contains (b ∷ name) byte) [
      | true ↦ λ e _. (0, omega arith, eqb-true b byte e)
      | false ↦ λ _ later. let rest = contains_of_has name byte later in (suc rest.0, omega (arith, rest.1), rest.2)
    ] refl h

pub lawful_without_fault : (name : List ℕ) → name_fault name ≡ None → IsLawfulName name
lawful_without_fault name none =
    let few = passed (leb (length name) 255) _ _ none in
    let some = passed (leb 1 (length name)) _ _ few.1 in
    let slash = passed (not (has_byte name 47)) _ _ some.1 in
    let zeros = passed (not (has_byte name 0)) _ _ slash.1 in
    let dot = passed (not (bytes_eq name (46 ∷ []))) _ _ zeros.1 in
    let dots = passed (not (bytes_eq name (46 ∷ 46 ∷ []))) _ _ dot.1 in
    record {
      some = leb-true _ _ some.0;
      few = leb-true _ _ few.0;
      no_slash = λ has. not_true _ slash.0 (has_of_contains name 47 has);
      no_zero = λ has. not_true _ zeros.0 (has_of_contains name 0 has);
      no_dot = λ is. not_true _ dot.0 ((bytes_eq-Decides name (46 ∷ [])).1 is);
      no_dots = λ is. not_true _ dots.0 ((bytes_eq-Decides name (46 ∷ 46 ∷ [])).1 is);
    }

pub no_fault_of_lawful : (name : List ℕ) → IsLawfulName name → name_fault name ≡ None
no_fault_of_lawful name lawful = rw (
  le-leb _ _ lawful.few,
  le-leb _ _ lawful.some,
  not_from (has_byte name 47) (λ h. lawful.no_slash (contains_of_has name 47 h)),
  not_from (has_byte name 0) (λ h. lawful.no_zero (contains_of_has name 0 h)),
  not_from (bytes_eq name (46 ∷ [])) (λ h. lawful.no_dot ((bytes_eq-Decides name (46 ∷ [])).0 h)),
  not_from (bytes_eq name (46 ∷ 46 ∷ [])) (λ h. lawful.no_dots ((bytes_eq-Decides name (46 ∷ 46 ∷ [])).0 h)),
)
