-- What a name leads to in a list of pairs.
use Rattle.std.proofs.Common.{◌≡◌, ℕ, zero, suc, ◌<◌, true, false, cond, Bool, Option, List, [], ◌∷◌, length, get_or, Some, None, IsSome, sym, ap, ◌∙◌, refl, arith, inl, inr}
use Rattle.std.proofs.lemmas.Bool.{cases_lt}
use mathlib.Core.Bool.{false≢true}
use Rattle.std.specs.declared.cmp.Ordering.{Ordering}
use Rattle.std.specs.declared.cmp.Ordering.TheVariants.{Less, Equal, Greater}
use Rattle.std.specs.Ordering.{nat_cmp, is_eq, eq_by_cmp}
use Rattle.std.specs.Cmp.Lexicographic.{slice_cmp}
use Rattle.std.specs.FinMap.{find, get, from_entries, get-from_entries}
use Rattle.std.proofs.lemmas.Cmp.{nat_list_cmp_total, eq_by_cmp_equiv}
use Rattle.kf_core.specs.declared.key.Key.{Key}
use Rattle.kf_core.specs.Names.{IsBefore}
use Rattle.kf_index.specs.Entries.{Entries}
use Rattle.kf_index.specs.Pairs.{Pairs, IsRising, IsPlaceOf, IsGapFor}
use Rattle.kf_index.proofs.Searched.{same_name}

abbrev pub is_same : List ℕ → List ℕ → Bool
is_same = eq_by_cmp (slice_cmp nat_cmp)

abbrev pub find_name : List ℕ → Pairs → Option Key
find_name = find (slice_cmp nat_cmp)

-- the pairs as a map
abbrev pub entries_of : Pairs → Entries
entries_of pairs = from_entries pairs

pub same_itself : (a : List ℕ) → is_same a a ≡ true
same_itself a = (eq_by_cmp_equiv nat_list_cmp_total).refl a

pub differs_below : (a b : List ℕ) → IsBefore a b → is_same a b ≡ false
differs_below a b e = ap is_eq e

pub differs_above : (a b : List ℕ) → IsBefore b a → is_same a b ≡ false
differs_above a b e = (eq_by_cmp_equiv nat_list_cmp_total).symm a b ∙ ap is_eq e

equal : (r : Ordering) → is_eq r ≡ true → r ≡ Equal
equal Less h = absurd (false≢true h)
equal Equal h = refl
equal Greater h = absurd (false≢true h)

pub name_of_same : (a b : List ℕ) → is_same a b ≡ true → a ≡ b
name_of_same a b e = same_name a b (equal _ e)

pub differs_unless : (a b : List ℕ) → ¬ (a ≡ b) → is_same a b ≡ false
differs_unless a b differ = by_cases (is_same a b) (λ same. differ (name_of_same a b same))
  where
    by_cases : (t : Bool) → ¬ (t ≡ true) → t ≡ false
    by_cases true n = absurd (n refl)
    by_cases false n = refl

-- no pair before this place has the name
abbrev pub NoneBefore : Pairs → List ℕ → ℕ → Type 0
NoneBefore pairs name at = (i : ℕ) (d : List ℕ × Key) → i < at → is_same name (get_or pairs i d).0 ≡ false

pub none_in_tail : (e : List ℕ × Key) (pairs : Pairs) (name : List ℕ) (at : ℕ) → NoneBefore (e ∷ pairs) name (suc at) → NoneBefore pairs name at
none_in_tail e pairs name at none i d below = none (suc i) d (omega arith)

pub find_none : (pairs : Pairs) (name : List ℕ) → NoneBefore pairs name (length pairs) → find_name name pairs ≡ None
find_none [] name none = refl
find_none (e ∷ pairs) name none = rw (none 0 e (omega arith)) (find_none pairs name (none_in_tail e pairs name _ none))

pub find_at : (pairs : Pairs) (name : List ℕ) (at : ℕ) (d : List ℕ × Key) → at < length pairs → NoneBefore pairs name at → is_same name (get_or pairs at d).0 ≡ true → find_name name pairs ≡ Some (get_or pairs at d).1
find_at [] name at d within none here = absurd (omega (arith, within))
find_at (e ∷ pairs) name zero d within none here = rw here
find_at (e ∷ pairs) name (suc at) d within none here = rw (none 0 e (omega arith)) (find_at pairs name at d (omega arith) (none_in_tail e pairs name at none) here)

-- a name that is found has a place
pub found_place : (pairs : Pairs) (name : List ℕ) → IsSome (find_name name pairs) → (at : ℕ) × IsPlaceOf pairs name at
found_place [] name found = absurd (false≢true found)
found_place (e ∷ pairs) name found =
    elim (is_same name e.0) as (λ b. is_same name e.0 ≡ b → IsSome (cond b (Some e.1) (find_name name pairs)) → (at : ℕ) × IsPlaceOf (e ∷ pairs) name at) [
      | true ↦ λ here _. (0, record { within = omega arith; named = λ d. sym (name_of_same name e.0 here) })
      | false ↦ λ here later. let rest = found_place pairs name later in (suc rest.0, record { within = omega (arith, rest.1.within); named = rest.1.named })
    ] refl found

module _ (pairs : Pairs) (rising : IsRising pairs) (name : List ℕ) (at : ℕ) (place : IsPlaceOf pairs name at) where
  -- no pair before the place has the name, since the names there are lower
  pub none_before_place : NoneBefore pairs name at
  none_before_place i d below = rw (← place.named d) (differs_above (get_or pairs at d).0 (get_or pairs i d).0 (rising i at d below place.within))

  pub get_at_place : (d : List ℕ × Key) → get (entries_of pairs) name ≡ Some (get_or pairs at d).1
  get_at_place d = get-from_entries nat_list_cmp_total pairs name ∙ find_at pairs name at d place.within none_before_place (rw (place.named d) (same_itself name))

module _ (pairs : Pairs) (name : List ℕ) (at : ℕ) (gap : IsGapFor pairs name at) where
  pub none_before_gap : NoneBefore pairs name at
  none_before_gap i d below = differs_above name (get_or pairs i d).0 (gap.lower i d below)

  none_anywhere : NoneBefore pairs name (length pairs)
  none_anywhere i d below = elim (cases_lt i at) [
    | inl low ↦ none_before_gap i d low
    | inr high ↦ differs_below name (get_or pairs i d).0 (gap.higher i d high below)
  ]

  pub get_in_gap : get (entries_of pairs) name ≡ None
  get_in_gap = get-from_entries nat_list_cmp_total pairs name ∙ find_none pairs name none_anywhere
