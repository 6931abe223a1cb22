-- What a binary search finds among pairs in rising order of their names.
use Rattle.std.proofs.Common.{◌≡◌, ℕ, ◌+◌, ◌<◌, ◌≤◌, List, length, get_or, ap, sym, subst, ◌∙◌, arith, inl, inr}
use Rattle.std.specs.declared.cmp.Ordering.TheVariants.{Equal, Greater}
use Rattle.std.specs.Ordering.{nat_cmp, ordering_reverse}
use Rattle.std.specs.Cmp.Lexicographic.{slice_cmp}
use Rattle.std.specs.FinMap.{slice_cmp-IsAntisymmetric, nat_cmp-IsAntisymmetric}
use Rattle.std.proofs.lemmas.Bool.{cases_order}
use Rattle.std.proofs.lemmas.Cmp.{nat_list_cmp_total, tied_itself}
use Rattle.std.proofs.lemmas.List.{get_or_default}
use Rattle.kf_core.specs.declared.key.Key.{Key}
use Rattle.kf_core.specs.Names.{IsBefore}
use Rattle.kf_index.specs.Pairs.{Pairs, IsRising, IsPlaceOf}

-- if a is greater than b, then b is before a
pub turned : (a b : List ℕ) → slice_cmp nat_cmp a b ≡ Greater → IsBefore b a
turned a b e = nat_list_cmp_total.antisymm b a ∙ ap ordering_reverse e

-- if a is not greater than b, then b is not before a
pub not_turned : (a b : List ℕ) → ¬ (slice_cmp nat_cmp a b ≡ Greater) → ¬ IsBefore b a
not_turned a b unless e = unless (nat_list_cmp_total.antisymm a b ∙ ap ordering_reverse e)

pub same_name : (a b : List ℕ) → slice_cmp nat_cmp a b ≡ Equal → a ≡ b
same_name = slice_cmp-IsAntisymmetric nat_cmp-IsAntisymmetric

pub not_before_itself : (a : List ℕ) → ¬ IsBefore a a
not_before_itself a e = cc (tied_itself nat_list_cmp_total a)

pub before_more : (a b c : List ℕ) → IsBefore a b → IsBefore b c → IsBefore a c
before_more = nat_list_cmp_total.trans

module _ (pairs : Pairs) (rising : IsRising pairs) (name : List ℕ) (at : ℕ) (e : List ℕ × Key) (within : at < length pairs) where
  -- the name at this place, whatever default is read past the end
  here : (d : List ℕ × Key) → (get_or pairs at d).0 ≡ (get_or pairs at e).0
  here d = ap (λ (pair : List ℕ × Key). pair.0) (get_or_default pairs at d e within)

  -- the name at a place is lower, and so are all before it
  pub lower_to : IsBefore (get_or pairs at e).0 name → (i : ℕ) (d : List ℕ × Key) → i < at + 1 → IsBefore (get_or pairs i d).0 name
  lower_to low i d below = elim (cases_order i at) [
    | inl is ↦ subst (λ (n : List ℕ). IsBefore n name) (sym (ap (λ (k : ℕ). (get_or pairs k d).0) is ∙ here d)) low
    | inr (inl under) ↦ before_more _ _ name (rising i at d under within) (subst (λ (n : List ℕ). IsBefore n name) (sym (here d)) low)
    | inr (inr over) ↦ absurd (omega (arith, below, over))
  ]

  -- the name at a place is higher, and so are all after it
  pub higher_from : IsBefore name (get_or pairs at e).0 → (i : ℕ) (d : List ℕ × Key) → at ≤ i → i < length pairs → IsBefore name (get_or pairs i d).0
  higher_from high i d from inside = elim (cases_order i at) [
    | inl is ↦ subst (IsBefore name) (sym (ap (λ (k : ℕ). (get_or pairs k d).0) is ∙ here d)) high
    | inr (inl under) ↦ absurd (omega (arith, from, under))
    | inr (inr over) ↦ before_more name _ _ (subst (IsBefore name) (sym (here d)) high) (rising at i d over inside)
  ]

  pub place_here : slice_cmp nat_cmp (get_or pairs at e).0 name ≡ Equal → IsPlaceOf pairs name at
  place_here equal = record { within = within; named = λ d. here d ∙ same_name _ _ equal }
