-- The first slash of a text, by a mask of the slashes among its first bytes.
use Rattle.std.proofs.Common.{◌≡◌, ◌≢◌, ℕ, suc, ◌+◌, ◌*◌, ◌<◌, ◌≤◌, List, [], ◌∷◌, Bool, true, false, not, Some, None, length, take, map, refl, sym, ap, ◌∙◌, arith, position, cond, ltb}
use Rattle.std.proofs.lemmas.Bool.{cond-true, lt-ltb}
use Rattle.std.proofs.lemmas.List.{get_or-take, length-take-le}
use Rattle.std.proofs.lemmas.List.Sums.{position_or_len_is, fails_before_first, passes_at_first, prefix_len-le-length}
use Rattle.std.proofs.lemmas.Simd.{trailing_mask_l}
use Rattle.std.specs.Int.Count.{count_trailing_zeros}
use Rattle.std.specs.List.{position_or_len}
use Rattle.std.specs.Simd.Lanes.{mask_l}

unset : (b : Bool) (n m l : ℕ) → cond (not b) (1 + m) 0 ≡ suc l → (m ≡ l → n ≡ 0) → cond b 1 0 + 2 * n ≡ 0
unset true n m l e f = absurd (omega arith)
unset false n m l e f = omega (arith, f (omega arith))

-- if no item passes the test, the mask is empty
none_set : (p : ℕ → Bool) (xs : List ℕ) → position_or_len p xs ≡ length xs → mask_l (map p xs) ≡ 0
none_set p [] e = refl
none_set p (x ∷ xs) e = unset (p x) (mask_l (map p xs)) (position_or_len p xs) (length xs) e (none_set p xs)

-- if an item among the first n passes the test, the lowest bit of the mask is at the first one that passes
pub first_in_mask : (p : ℕ → Bool) (xs : List ℕ) (n : ℕ) → n ≤ 64 → n ≤ length xs → mask_l (map p (take n xs)) ≢ 0
    → Some (count_trailing_zeros 64 (mask_l (map p (take n xs)))) ≡ position p xs
first_in_mask p xs n few long some =
    let front : List ℕ = take n xs in let r : ℕ = position_or_len p front in
    let size : length front ≡ n = length-take-le n xs long in
    let at : count_trailing_zeros 64 (mask_l (map p front)) ≡ r = trailing_mask_l p 64 front (omega (arith, size)) (omega (arith, some)) in
    let within : r ≤ length front = prefix_len-le-length (λ x. not (p x)) front in
    let short : (r ≡ length front → ⊥) = λ e. some (none_set p front e) in
    let inside : r < n = omega (arith, within, short, size) in
    let all : position_or_len p xs ≡ r = position_or_len_is p xs r 0 (omega (arith, inside))
    (λ k d. sym (ap p (get_or-take n xs k 0 (omega (arith, d, inside)))) ∙ fails_before_first p front k 0 d)
    (λ fits. sym (ap p (get_or-take n xs r 0 inside)) ∙ passes_at_first p front 0 (omega (arith, inside, size))) in
    ap Some at ∙ sym (ap (λ k. cond (ltb k (length xs)) (Some k) None) all ∙ cond-true _ _ _ (lt-ltb r (length xs) (omega (arith, inside))))
