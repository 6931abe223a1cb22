-- Places in a new order, and the entries after one place is written.
use Rattle.std.proofs.Common.{◌≡◌, ◌≢◌, ℕ, zero, suc, ◌<◌, ◌≤◌, List, [], ◌∷◌, ◌++◌, length, get_or, map, take, drop, set, Option, None, ap, refl, subst, arith, rules}
use Rattle.std.specs.List.{insert, remove, All, AllPairs}
use Rattle.std.specs.List.Sorted.{IsPermutation}
use Rattle.std.proofs.lemmas.Bool.Decides.{Decides-eqb}
use Rattle.std.specs.Bool.{◌==◌}
use Rattle.std.proofs.lemmas.List.{get_or-set_other, length-set, take-append-drop}
use Rattle.std.proofs.lemmas.List.Sorted.{IsPermutation-to_front, IsPermutation-insert, IsPermutation-remove, IsPermutation-trans, IsPermutation-sym, IsPermutation-append_left, All-permutation, length_permutation}
use Rattle.std.proofs.lemmas.Map.Keys.{IsDistinct-IsPermutation}
use Rattle.std.proofs.lemmas.Map.Made.{AllPairs-from_IsDistinct, IsDistinct-from_AllPairs}
use Rattle.kf_core.specs.declared.key.Key.{Key}
use Rattle.kf_index.specs.Places.{Places, pairs_at, AreTaken, AreInOrder}

pub map-insert : {X Y : Type 0} (f : X → Y) (xs : List X) (at : ℕ) (x : X) → map f (insert xs at x) ≡ insert (map f xs) at (f x)
map-insert f xs zero x = refl
map-insert f [] (suc at) x = refl
map-insert f (y ∷ xs) (suc at) x = ap (λ l. f y ∷ l) (map-insert f xs at x)

pub map-remove : {X Y : Type 0} (f : X → Y) (xs : List X) (at : ℕ) → map f (remove xs at) ≡ remove (map f xs) at
map-remove f [] zero = refl
map-remove f [] (suc at) = refl
map-remove f (y ∷ xs) zero = refl
map-remove f (y ∷ xs) (suc at) = ap (λ l. f y ∷ l) (map-remove f xs at)

-- if no two of the places are the same, that is so in any order
pub apart_permutation : (xs ys : List ℕ) → IsPermutation xs ys → AllPairs (λ a b. a ≢ b) xs → AllPairs (λ a b. a ≢ b) ys
apart_permutation xs ys moved apart =
    AllPairs-from_IsDistinct Decides-eqb ys (IsDistinct-IsPermutation (λ a b. a == b) flips xs ys moved (IsDistinct-from_AllPairs Decides-eqb xs apart))
  where
    flips : (a b : ℕ) → (a == b) ≡ (b == a)
    flips a b = search rules

-- moving the last of the places to another one in their order is a permutation
pub last_moved : (front : List ℕ) (last at : ℕ) → IsPermutation (front ++ last ∷ []) (insert front at last)
last_moved front last at = IsPermutation-trans _ _ _ (IsPermutation-to_front front last) (IsPermutation-insert front at last)

-- moving one of the places behind all others is a permutation
pub moved_last : (order : List ℕ) (place at : ℕ) → at < length order → place ≡ get_or order at place → IsPermutation order (remove order at ++ place ∷ [])
moved_last order place at within is =
    IsPermutation-trans _ _ _ (IsPermutation-remove order at place within is) (IsPermutation-sym _ _ (IsPermutation-to_front (remove order at) place))

-- reordering the first of the places, and leaving the others behind them as they were, is a permutation
pub part_moved : (order part : List ℕ) (n : ℕ) → IsPermutation (take n order) part → IsPermutation order (part ++ drop n order)
part_moved order part n moved =
    subst (λ all. IsPermutation all (part ++ drop n order)) (take-append-drop n order) (IsPermutation-append_left (drop n order) (take n order) part moved)

module _ (entries : Places) (place : ℕ) (entry : Option (List ℕ × Key)) where
  -- if another place is written, the entries at these places are the same as before
  pub same_elsewhere : (order : List ℕ) → All (λ other. other ≢ place) order → pairs_at (set entries place entry) order ≡ pairs_at entries order
  same_elsewhere [] apart = refl
  same_elsewhere (other ∷ order) apart =
      let differs : other ≢ place = apart 0 0 (omega arith) in
      rw (get_or-set_other entries place other entry None differs, same_elsewhere order (λ k d low. apart (suc k) d (omega (arith, low)))) refl

  pub taken_elsewhere : (order : List ℕ) → All (λ other. other ≢ place) order → AreTaken entries order → AreTaken (set entries place entry) order
  taken_elsewhere order apart taken k d low = rw (get_or-set_other entries place (get_or order k d) entry None (apart k d low)) (taken k d low)

  -- in a new order the places are still within the entries, and still no two of them are the same
  pub in_new_order : (order moved : List ℕ) (len less : ℕ) → AreInOrder entries order len → IsPermutation order moved → less ≤ length order
      → AreTaken (set entries place entry) (take less moved) → AreInOrder (set entries place entry) moved less
  in_new_order order moved len less kept same few taken = record {
    within = All-permutation (λ other. other < length (set entries place entry)) order moved same (λ k d low. rw (length-set {A = Option (List ℕ × Key)}) (kept.within k d low));
    apart = apart_permutation order moved same kept.apart;
    as_many = rw (length-set {A = Option (List ℕ × Key)}, length_permutation order moved same) kept.as_many;
    few = rw (length_permutation order moved same) few;
    taken = taken;
  }
