-- A part of some pairs: what is found, put or removed in the part is found, put or removed in the whole.
use Rattle.std.proofs.Common.{◌≡◌, ℕ, ◌+◌, ◌-◌, ◌<◌, ◌≤◌, List, ◌++◌, length, get_or, drop, sym, ap, ◌∙◌, refl, arith, inl, inr, Some}
use Rattle.std.proofs.lemmas.Bool.{cases_lt}
use Rattle.std.specs.List.{insert, remove, All}
use Rattle.std.proofs.lemmas.List.{length-append, get_or_append_left, get_or-append_right, get_or-append-add, drop_at, drop-append-le, drop-drop}
use Rattle.std.proofs.lemmas.List.Edits.{insert-append_left, insert-append_right, remove-append_left, remove-append_right}
use Rattle.kf_core.specs.declared.key.Key.{Key}
use Rattle.kf_core.specs.declared.refusal.Refusal.{Refusal}
use Rattle.kf_core.specs.Names.{IsBefore}
use Rattle.kf_index.specs.Pairs.{Pairs, IsRising, IsPlaceOf, IsGapFor, IsFirstAbove}
use Rattle.kf_index.specs.Places.{no_entry}
use Rattle.kf_index.specs.Chunks.{HasKey, LacksName, IsPut, WasRefused, IsTakenOut}
use Rattle.kf_index.proofs.Searched.{not_before_itself, before_more}

module _ (before part after : Pairs) where
  -- an entry of the part, by its place in the whole
  pub here : (i : ℕ) (d : List ℕ × Key) → i < length part → get_or (before ++ (part ++ after)) (length before + i) d ≡ get_or part i d
  here i d within = get_or-append-add before (part ++ after) i d ∙ get_or_append_left part after d i within

  -- an entry after the part, by its place in the whole
  past : (i : ℕ) (d : List ℕ × Key) → length before + length part ≤ i → get_or (before ++ (part ++ after)) i d ≡ get_or after (i - length before - length part) d
  past i d high = get_or-append_right before (part ++ after) (length before) i d refl (omega (arith, high))
      ∙ get_or-append_right part after (length part) (i - length before) d refl (omega (arith, high))

  as_long : length (before ++ (part ++ after)) ≡ length before + (length part + length after)
  as_long = length-append before (part ++ after) ∙ ap (λ n. length before + n) (length-append part after)

  pub rising_part : IsRising (before ++ (part ++ after)) → IsRising part
  rising_part rising i j d low high =
      let first = here i d (omega (arith, low, high)) in
      let second = here j d high in
      rw (← first, ← second) (rising (length before + i) (length before + j) d (omega (arith, low)) (omega (arith, high, as_long)))

  place_inside : (name : List ℕ) (at : ℕ) → IsPlaceOf part name at → IsPlaceOf (before ++ (part ++ after)) name (length before + at)
  place_inside name at place = record {
    within = omega (arith, place.within, as_long);
    named = λ d. rw (here at d place.within) (place.named d);
  }

  inserted : (at : ℕ) (entry : List ℕ × Key) → at ≤ length part
      → insert (before ++ (part ++ after)) (length before + at) entry ≡ before ++ (insert part at entry ++ after)
  inserted at entry within =
      insert-append_right before (part ++ after) (length before) (length before + at) entry refl (omega arith)
      ∙ ap (λ n. before ++ insert (part ++ after) n entry) {x = length before + at - length before} {y = at} (omega arith)
      ∙ ap (λ l. before ++ l) (insert-append_left part after at entry within)

  removed : (at : ℕ) → at < length part
      → remove (before ++ (part ++ after)) (length before + at) ≡ before ++ (remove part at ++ after)
  removed at within =
      remove-append_right before (part ++ after) (length before) (length before + at) refl (omega arith)
      ∙ ap (λ n. before ++ remove (part ++ after) n) {x = length before + at - length before} {y = at} (omega arith)
      ∙ ap (λ l. before ++ l) (remove-append_left part after at within)

  pub dropped_inside : (at : ℕ) → at ≤ length part → drop (length before + at) (before ++ (part ++ after)) ≡ drop at part ++ after
  dropped_inside at within =
      sym (drop-drop at (length before) (before ++ (part ++ after)))
      ∙ ap (drop at) (drop_at before (part ++ after) (length before) refl) ∙ drop-append-le at part after within

  pub key_inside : (name : List ℕ) (key : Key) → HasKey part name key → HasKey (before ++ (part ++ after)) name key
  key_inside name key found = record {
    at = length before + found.at;
    place = place_inside name found.at found.place;
    read = found.read ∙ sym (ap (λ (e : List ℕ × Key). e.1) (here found.at no_entry found.place.within));
  }

  pub taken_inside : (name : List ℕ) (key : Key) (left : Pairs) → IsTakenOut part name key left
      → IsTakenOut (before ++ (part ++ after)) name key (before ++ (left ++ after))
  taken_inside name key left out = record {
    at = length before + out.at;
    place = place_inside name out.at out.place;
    read = out.read ∙ sym (ap (λ (e : List ℕ × Key). e.1) (here out.at no_entry out.place.within));
    taken = ap (λ l. before ++ (l ++ after)) out.taken ∙ sym (removed out.at out.place.within);
  }

  -- the names before the part are lower, and those after it are higher
  module _ (name : List ℕ) (lower : All (λ entry. IsBefore entry.0 name) before) (higher : All (λ entry. IsBefore name entry.0) after) where
    gap_inside : (at : ℕ) → IsGapFor part name at → IsGapFor (before ++ (part ++ after)) name (length before + at)
    gap_inside at gap = record {
      within = omega (arith, gap.within, as_long);
      lower = λ i d under. elim (cases_lt i (length before)) [
        | inl front ↦ rw (get_or_append_left before (part ++ after) d i front) (lower i d front)
        | inr from ↦
            let k = i - length before in
            let is : length before + k ≡ i = omega (arith, from) in
            rw (← is, here k d (omega (arith, from, under, gap.within))) (gap.lower k d (omega (arith, from, under)))
      ];
      higher = λ i d over inside. elim (cases_lt i (length before + length part)) [
        | inl within ↦
            let k = i - length before in
            let is : length before + k ≡ i = omega (arith, over) in
            rw (← is, here k d (omega (arith, over, within))) (gap.higher k d (omega (arith, over)) (omega (arith, over, within)))
        | inr beyond ↦ rw (past i d beyond) (higher (i - length before - length part) d (omega (arith, beyond, inside, as_long)))
      ];
    }

    pub lacks_inside : LacksName part name → LacksName (before ++ (part ++ after)) name
    lacks_inside lacks = record { at = length before + lacks.at; gap = gap_inside lacks.at lacks.gap }

    pub put_inside : (key : Key) (more : Pairs) → IsPut part name key more → IsPut (before ++ (part ++ after)) name key (before ++ (more ++ after))
    put_inside key more new = record {
      at = length before + new.at;
      gap = gap_inside new.at new.gap;
      put = ap (λ l. before ++ (l ++ after)) new.put ∙ sym (inserted new.at (name, key) new.gap.within);
    }

    pub refused_inside : (refusal : Refusal) → WasRefused part name refusal → WasRefused (before ++ (part ++ after)) name refusal
    refused_inside refusal (inl there) = inl (there.0, (length before + there.1.0, place_inside name there.1.0 there.1.1))
    refused_inside refusal (inr starved) = inr (starved.0, lacks_inside starved.1)

    pub first_inside : (at : ℕ) → IsFirstAbove part (Some name) at → IsFirstAbove (before ++ (part ++ after)) (Some name) (length before + at)
    first_inside at first = record {
      within = omega (arith, first.within, as_long);
      not_above = λ i d under. elim (cases_lt i (length before)) [
        | inl front ↦ rw (get_or_append_left before (part ++ after) d i front) (λ above. not_before_itself name (before_more name (get_or before i d).0 name above (lower i d front)))
        | inr from ↦
            let k = i - length before in
            let is : length before + k ≡ i = omega (arith, from) in
            rw (← is, here k d (omega (arith, from, under, first.within))) (first.not_above k d (omega (arith, from, under)))
      ];
      above = λ i d over inside. elim (cases_lt i (length before + length part)) [
        | inl within ↦
            let k = i - length before in
            let is : length before + k ≡ i = omega (arith, over) in
            rw (← is, here k d (omega (arith, over, within))) (first.above k d (omega (arith, over)) (omega (arith, over, within)))
        | inr beyond ↦ rw (past i d beyond) (higher (i - length before - length part) d (omega (arith, beyond, inside, as_long)))
      ];
    }
