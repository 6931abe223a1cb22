-- The names above a bound, the least one first, among pairs in rising order of their names.
use Rattle.std.proofs.Common.{◌≡◌, ◌⊎◌, ℕ, ◌+◌, ◌<◌, ◌≤◌, zero, suc, Option, List, [], length, get_or, drop, Some, None, IsSome, sym, ap, ◌∙◌, subst, arith, inl, inr}
use Rattle.std.proofs.lemmas.Bool.{cases_order, cases_lt}
use Rattle.std.specs.FinMap.{get-from_entries}
use Rattle.std.proofs.lemmas.Cmp.{nat_list_cmp_total}
use Rattle.std.proofs.lemmas.List.{get_or_default, drop_all, drop_more}
use Rattle.kf_core.specs.declared.key.Key.{Key}
use Rattle.kf_core.specs.Names.{IsBefore}
use Rattle.kf_index.specs.Entries.{IsAbove, IsLeastAbove, NoneAbove, AreAbove}
use Rattle.kf_index.specs.Pairs.{Pairs, IsRising, IsPlaceOf, IsGapFor, IsFirstAbove}
use Rattle.kf_index.proofs.Searched.{not_before_itself, before_more}
use Rattle.kf_index.proofs.Found.{entries_of, find_none, found_place, get_at_place, differs_unless}

-- if there is no bound, every name is above it
pub first_of_all : (pairs : Pairs) → IsFirstAbove pairs None 0
first_of_all pairs = record { within = omega arith; not_above = λ i d low. absurd (omega (arith, low)); above = λ i d low high. tt }

-- the first pair above a name that has a gap is the one at the gap
pub first_from_gap : (pairs : Pairs) (name : List ℕ) (at : ℕ) → IsGapFor pairs name at → IsFirstAbove pairs (Some name) at
first_from_gap pairs name at gap = record {
  within = gap.within;
  not_above = λ i d low above. not_before_itself name (before_more name (get_or pairs i d).0 name above (gap.lower i d low));
  above = gap.higher;
}

-- the first pair above a name that has a place is the one after that place
pub first_past_place : (pairs : Pairs) → IsRising pairs → (name : List ℕ) (at : ℕ) → IsPlaceOf pairs name at → IsFirstAbove pairs (Some name) (at + 1)
first_past_place pairs rising name at place = record {
  within = omega (arith, place.within);
  not_above = λ i d low above. elim (cases_order i at) [
    | inl is ↦ not_before_itself name (subst (λ (n : List ℕ). IsBefore name n) (ap (λ (k : ℕ). (get_or pairs k d).0) is ∙ place.named d) above)
    | inr (inl under) ↦ not_before_itself name (before_more name (get_or pairs i d).0 name above (subst (λ (n : List ℕ). IsBefore (get_or pairs i d).0 n) (place.named d) (rising i at d under place.within)))
    | inr (inr over) ↦ absurd (omega arith)
  ];
  above = λ i d low high. subst (λ (n : List ℕ). IsBefore n (get_or pairs i d).0) (place.named d) (rising at i d (omega arith) high);
}

module _ (pairs : Pairs) (rising : IsRising pairs) (bound : Option (List ℕ)) (at : ℕ) (first : IsFirstAbove pairs bound at) where
  -- a name that is found, and is above the bound, is at this place or a later one
  later_place : (d : List ℕ × Key) (other : List ℕ) (i : ℕ) → IsPlaceOf pairs other i → IsAbove bound other → (other ≡ (get_or pairs at d).0) ⊎ IsBefore (get_or pairs at d).0 other
  later_place d other i place above = elim (cases_order i at) [
    | inl is ↦ inl (sym (place.named d) ∙ ap (λ (k : ℕ). (get_or pairs k d).0) is)
    | inr (inl under) ↦ absurd (first.not_above i d under (subst (λ (n : List ℕ). IsAbove bound n) (sym (place.named d)) above))
    | inr (inr over) ↦ inr (subst (λ (n : List ℕ). IsBefore (get_or pairs at d).0 n) (place.named d) (rising at i d over place.within))
  ]

  pub least_above : (d : List ℕ × Key) → at < length pairs → IsLeastAbove (entries_of pairs) bound (get_or pairs at d).0 (get_or pairs at d).1
  least_above d within =
      let here : IsPlaceOf pairs (get_or pairs at d).0 at = record { within = within; named = λ e. ap (λ (pair : List ℕ × Key). pair.0) (get_or_default pairs at e d within) } in
      record {
        found = get_at_place pairs rising (get_or pairs at d).0 at here d;
        above = first.above at d (omega arith) within;
        least = λ other found above.
            let place = found_place pairs other (subst (λ o. IsSome o) (get-from_entries nat_list_cmp_total pairs other) found) in
            later_place d other place.0 place.1 above;
      }

  pub none_above : length pairs ≤ at → NoneAbove (entries_of pairs) bound
  none_above past name above = get-from_entries nat_list_cmp_total pairs name ∙ find_none pairs name (λ i d low. differs_unless name (get_or pairs i d).0 (λ is. first.not_above i d (omega arith) (subst (λ (n : List ℕ). IsAbove bound n) is above)))

module _ (pairs : Pairs) (rising : IsRising pairs) where
  nothing : List ℕ × Key
  nothing = ([], record { slot = 0; generation = 0 })

  place_at : (at : ℕ) → at < length pairs → IsPlaceOf pairs (get_or pairs at nothing).0 at
  place_at at within = record { within = within; named = λ d. ap (λ (pair : List ℕ × Key). pair.0) (get_or_default pairs at d nothing within) }

  past_the_last : (bound : Option (List ℕ)) (at : ℕ) → length pairs ≤ at → IsFirstAbove pairs bound at → AreAbove (entries_of pairs) bound (drop at pairs)
  unfolding AreAbove
  past_the_last bound at past first = subst (AreAbove (entries_of pairs) bound) (sym (drop_all at pairs past)) (none_above pairs rising bound at first past)

  -- the pairs from the first one above the bound on are all that are above it; at most this many are left
  pub all_above : (left : ℕ) (bound : Option (List ℕ)) (at : ℕ) → length pairs ≤ at + left → IsFirstAbove pairs bound at → AreAbove (entries_of pairs) bound (drop at pairs)
  unfolding AreAbove
  all_above zero bound at few first = past_the_last bound at (omega arith) first
  all_above (suc left) bound at few first = elim (cases_lt at (length pairs)) [
    | inl within ↦ subst (AreAbove (entries_of pairs) bound) (sym (drop_more pairs at nothing within)) (
      least_above pairs rising bound at first nothing within,
      all_above left (Some (get_or pairs at nothing).0) (at + 1) (omega arith) (first_past_place pairs rising (get_or pairs at nothing).0 at (place_at at within)),
    )
    | inr past ↦ past_the_last bound at past first
  ]
