-- How many items of a list pass a test.
use Rattle.std.proofs.Common.{◌≡◌, ℕ, zero, suc, ◌+◌, List, [], ◌∷◌, ◌++◌, refl, ap, arith, slice_set, sym, subst, get_or, cond, ◌∙◌, Bool, true, false}
use Rattle.std.specs.Prelude.{slice_get, Some, count_by}
use Rattle.std.proofs.lemmas.Option.{same_Some, none-some, slice_get_within, get_or_from_slice_get}
use Rattle.std.proofs.lemmas.List.Sums.{sum_by-set, sum_by-cons, sum_by-append}

module _ {X : Type 0} (p : X → Bool) where
  one : X → ℕ
  one x = cond (p x) 1 0

  is_not : (b : Bool) (n : ℕ) → cond b 1 0 + n ≡ 0 → b ≡ false
  is_not true n h = absurd (omega (arith, h))
  is_not false n h = refl

  rest_none : (b : Bool) (n : ℕ) → cond b 1 0 + n ≡ 0 → n ≡ 0
  rest_none true n h = omega (arith, h)
  rest_none false n h = omega (arith, h)

  -- if no item passes, this one does not
  pub none_passes : (xs : List X) (i : ℕ) (x : X) → count_by p xs ≡ 0 → slice_get xs i ≡ Some x → p x ≡ false
  none_passes [] i x h g = absurd (none-some x g)
  none_passes (y ∷ xs) zero x h g = subst (λ z. p z ≡ false) (same_Some y x g) (is_not (p y) (count_by p xs) (sym (sum_by-cons (λ z. cond (p z) 1 0) y xs) ∙ h))
  none_passes (y ∷ xs) (suc i) x h g = none_passes xs i x (rest_none (p y) (count_by p xs) (sym (sum_by-cons (λ z. cond (p z) 1 0) y xs) ∙ h)) g

  -- if every item fails the test, none is counted
  pub none_counted : (xs : List X) → ((i : ℕ) (x : X) → slice_get xs i ≡ Some x → p x ≡ false) → count_by p xs ≡ 0
  none_counted [] h = refl
  none_counted (y ∷ xs) h =
      let rest = none_counted xs (λ i x g. h (suc i) x g) in
      sum_by-cons (λ z. cond (p z) 1 0) y xs ∙ (let e : ◌≡◌ {A = ℕ} (cond (p y) 1 0) 0 = ap (λ (b : Bool). cond {A = ℕ} b 1 0) (h 0 y refl) in rw e (omega (arith, rest)))

  pub count_push : (xs : List X) (y : X) → count_by p (xs ++ y ∷ []) ≡ count_by p xs + cond (p y) 1 0
  count_push xs y = sum_by-append (λ z. cond (p z) 1 0) xs (y ∷ []) ∙ ap (λ n. count_by p xs + n) (nothing_more (cond (p y) 1 0))
    where
      nothing_more : (n : ℕ) → 0 + n ≡ n
      nothing_more n = omega arith

  pub count_set : (xs : List X) (i : ℕ) (x y : X) → slice_get xs i ≡ Some x → count_by p (slice_set xs i y) + cond (p x) 1 0 ≡ count_by p xs + cond (p y) 1 0
  count_set xs i x y h =
      let e : get_or xs i y ≡ x = get_or_from_slice_get xs i x y h in
      rw e at (sum_by-set (λ z. cond (p z) 1 0) xs i y y (slice_get_within xs i x h))
