-- An entry is put at a free place, and that place is put into the order.
use Rattle.std.proofs.Common.{◌≡◌, ◌≢◌, ℕ, ◌+◌, ◌<◌, ◌≤◌, List, ◌∷◌, ◌++◌, length, get_or, take, drop, set, Some, None, ap, ◌∙◌, refl, subst, arith}
use Rattle.std.specs.List.{insert, All}
use Rattle.std.specs.List.Sorted.{IsPermutation}
use Rattle.std.proofs.lemmas.List.{get_or_default, get_or-set_same, get_or-take, length-take-le, take_at, take_more}
use Rattle.std.proofs.lemmas.List.Elements.{All-cons}
use Rattle.std.proofs.lemmas.List.Edits.{length-insert}
use Rattle.std.proofs.lemmas.List.Sorted.{IsPermutation-insert, All-permutation}
use Rattle.kf_core.specs.declared.key.Key.{Key}
use Rattle.kf_index.specs.Places.{Places, entry_at, pairs_at, IsTaken, AreTaken, AreInOrder}
use Rattle.kf_index.proofs.Reordered.{map-insert, last_moved, part_moved, same_elsewhere, taken_elsewhere, in_new_order}
use Rattle.kf_index.proofs.places.put_at.Goals as goal

module _ (entries : Places) (order moved : List ℕ) (len at place : ℕ) (entry : List ℕ × Key) (kept : AreInOrder entries order len)
    (free : len < length order) (within : at ≤ len) (here : (d : ℕ) → get_or order len d ≡ place) (is : moved ≡ insert (take len order) at place) where
  long : length (take len order) ≡ len
  long = length-take-le len order kept.few

  as_long : length moved ≡ len + 1
  as_long = ap length is ∙ length-insert (take len order) at place (omega (arith, long, within)) ∙ ap (λ n. n + 1) long

  others : All (λ other. other ≢ place) (take len order)
  others k d low =
      let below : k < len = omega (arith, long, low) in
      rw (get_or-take len order k d below, ← here d) (kept.apart k len d below free)

  inside : place < length entries
  inside = subst (λ p. p < length entries) (here 0) (kept.within len 0 free)

  written : get_or (set entries place (Some entry)) place None ≡ Some entry
  written = get_or-set_same entries place (Some entry) None inside

  now_taken : AreTaken (set entries place (Some entry)) moved
  now_taken = rw is (All-permutation (IsTaken (set entries place (Some entry))) (place ∷ take len order) _ (IsPermutation-insert (take len order) at place)
      (All-cons (IsTaken (set entries place (Some entry))) place (take len order) (rw written refl) (taken_elsewhere entries place (Some entry) (take len order) others kept.taken)))

  moved_in : IsPermutation (take (len + 1) order) moved
  moved_in = rw (take_more order len 0 free, here 0, is) (last_moved (take len order) place at)

  seam : take (len + 1) (moved ++ drop (len + 1) order) ≡ moved
  seam = take_at moved (drop (len + 1) order) (len + 1) as_long

  kept_after : AreInOrder (set entries place (Some entry)) (moved ++ drop (len + 1) order) (len + 1)
  kept_after = in_new_order entries place (Some entry) order _ len (len + 1) kept (part_moved order moved (len + 1) moved_in) (omega (arith, free)) (rw seam now_taken)

  put_after : pairs_at (set entries place (Some entry)) (take (len + 1) (moved ++ drop (len + 1) order)) ≡ insert (pairs_at entries (take len order)) at entry
  put_after =
      rw (seam, is, map-insert (entry_at (set entries place (Some entry))) (take len order) at place, same_elsewhere entries place (Some entry) (take len order) others, written) refl

pub returns-clause-kept : goal.returns-clause-kept
returns-clause-kept c =
    let order = c.args.order.now in
    let here = λ (d : ℕ). get_or_default order c.args.len d 0 c.requires.free in
    let moved = c.last_to.ensures.moved _ _ (take_more order c.args.len 0 c.requires.free) in
    kept_after _ order _ _ _ _ c.args.entry c.requires.kept c.requires.free c.requires.within here moved

pub returns-clause-put : goal.returns-clause-put
returns-clause-put c =
    let order = c.args.order.now in
    let here = λ (d : ℕ). get_or_default order c.args.len d 0 c.requires.free in
    let moved = c.last_to.ensures.moved _ _ (take_more order c.args.len 0 c.requires.free) in
    put_after _ order _ _ _ _ c.args.entry c.requires.kept c.requires.free c.requires.within here moved
