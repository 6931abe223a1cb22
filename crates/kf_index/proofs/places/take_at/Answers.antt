-- An entry is taken out, and its place joins the free ones.
use Rattle.std.proofs.Common.{◌≡◌, ◌≢◌, ℕ, suc, ◌-◌, ◌<◌, List, [], ◌∷◌, ◌++◌, length, get_or, take, drop, set, Some, None, sym, ap, ◌∙◌, refl, arith, append_assoc}
use Rattle.std.specs.List.{remove, All, AllPairs}
use Rattle.std.specs.List.Sorted.{IsPermutation}
use Rattle.std.proofs.lemmas.List.{get_or_default, get_or-map, get_or-take, length-take-le, take_at}
use Rattle.std.proofs.lemmas.List.Elements.{All-tail}
use Rattle.std.proofs.lemmas.List.Edits.{length-remove}
use Rattle.std.proofs.lemmas.List.Sorted.{IsPermutation-remove, All-permutation}
use Rattle.kf_core.specs.declared.key.Key.{Key}
use Rattle.kf_index.specs.Places.{Places, entry_at, pairs_at, IsTaken, AreTaken, AreInOrder}
use Rattle.kf_index.proofs.Reordered.{map-remove, moved_last, part_moved, apart_permutation, same_elsewhere, taken_elsewhere, in_new_order}
use Rattle.kf_index.proofs.places.take_at.Goals as goal

module _ (entries : Places) (order moved : List ℕ) (len at place : ℕ) (kept : AreInOrder entries order len)
    (within : at < len) (here : (d : ℕ) → get_or order at d ≡ place) (is : moved ≡ remove (take len order) at ++ place ∷ []) where
  long : length (take len order) ≡ len
  long = length-take-le len order kept.few

  low : at < length (take len order)
  low = omega (arith, long, within)

  shorter : length (remove (take len order) at) ≡ len - 1
  shorter = omega (arith, length-remove (take len order) at low, long)

  place_of : place ≡ get_or (take len order) at place
  place_of = sym (get_or-take len order at place within ∙ here place)

  to_front : IsPermutation (take len order) (place ∷ remove (take len order) at)
  to_front = IsPermutation-remove (take len order) at place low place_of

  used_apart : AllPairs (λ a b. a ≢ b) (take len order)
  used_apart i j d under below =
      let inside : j < len = omega (arith, long, below) in
      let before : i < len = omega (arith, inside, under) in
      rw (get_or-take len order i d before, get_or-take len order j d inside) (kept.apart i j d under (omega (arith, inside, kept.few)))

  others : All (λ other. other ≢ place) (remove (take len order) at)
  others k d below is_place =
      apart_permutation (take len order) _ to_front used_apart 0 (suc k) d (omega arith) (omega (arith, below)) (sym is_place)

  left_taken : AreTaken entries (remove (take len order) at)
  left_taken = All-tail (IsTaken entries) place _ (All-permutation (IsTaken entries) (take len order) _ to_front kept.taken)

  seam : take (len - 1) (moved ++ drop len order) ≡ remove (take len order) at
  seam =
      rw (is, append_assoc) (take_at (remove (take len order) at) _ (len - 1) shorter)

  moved_out : IsPermutation (take len order) moved
  moved_out = rw is (moved_last (take len order) place at low place_of)

  kept_after : AreInOrder (set entries place None) (moved ++ drop len order) (len - 1)
  kept_after =
      in_new_order entries place None order _ len (len - 1) kept (part_moved order moved len moved_out) (omega (arith, kept.few))
      (rw seam (taken_elsewhere entries place None (remove (take len order) at) others left_taken))

  taken_after : pairs_at (set entries place None) (take (len - 1) (moved ++ drop len order)) ≡ remove (pairs_at entries (take len order)) at
  taken_after = rw (seam, same_elsewhere entries place None (remove (take len order) at) others) (map-remove (entry_at entries) (take len order) at)

  read_before : (entry : List ℕ × Key) → get_or entries place None ≡ Some entry → entry ≡ get_or (pairs_at entries (take len order)) at entry
  read_before entry stood = sym (get_or-map (entry_at entries) (take len order) at place entry low ∙ rw (← place_of, stood) refl)

-- the places of the entries after the code has moved them
moved_by : (order moved : List ℕ) (len at : ℕ) → at < len → moved ≡ remove (take len order) at ++ get_or (take len order) at 0 ∷ []
    → moved ≡ remove (take len order) at ++ get_or order at 0 ∷ []
moved_by order moved len at within is = is ∙ ap (λ place. remove (take len order) at ++ place ∷ []) (get_or-take len order at 0 within)

pub returns-clause-kept : goal.returns-clause-kept
returns-clause-kept c =
    let order = c.args.order.now in
    let here = λ (d : ℕ). get_or_default order c.args.at d 0 (omega (arith, c.requires.kept.few)) in
    let moved = moved_by order _ _ _ c.requires.within (c.to_last.ensures.moved 0) in
    rw c.take.ensures.after (kept_after _ order _ _ _ _ c.requires.kept c.requires.within here moved)

pub returns-clause-value : goal.returns-clause-value
returns-clause-value c =
    let order = c.args.order.now in
    let here = λ (d : ℕ). get_or_default order c.args.at d 0 (omega (arith, c.requires.kept.few)) in
    let moved = moved_by order _ _ _ c.requires.within (c.to_last.ensures.moved 0) in
    read_before _ order _ _ _ _ c.requires.kept c.requires.within here moved c.in-Some.entry (get_or_default c.args.entries.now _ None c.index-entries-place.result (c.requires.kept.within c.args.at 0 (omega (arith, c.requires.kept.few))) ∙ sym c.take.ensures.value ∙ c.in-Some.is)

pub returns-clause-taken : goal.returns-clause-taken
returns-clause-taken c =
    let order = c.args.order.now in
    let here = λ (d : ℕ). get_or_default order c.args.at d 0 (omega (arith, c.requires.kept.few)) in
    let moved = moved_by order _ _ _ c.requires.within (c.to_last.ensures.moved 0) in
    rw c.take.ensures.after (taken_after _ order _ _ _ _ c.requires.kept c.requires.within here moved)
