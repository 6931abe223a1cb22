-- Lists by place: what one write, or one more item, changes.
use Rattle.std.proofs.Common.{◌≡◌, ◌≢◌, ◌⊎◌, inl, inr, ℕ, zero, suc, ◌+◌, ◌<◌, ◌≤◌, List, [], ◌∷◌, ◌++◌, length, refl, ap, arith, slice_set, get_or, cond, ◌∙◌, sym, Bool, true, false}
use Rattle.std.specs.Prelude.{slice_get, Option, None, Some, count_by, is_some, fold, map}
use Rattle.std.specs.Option.{option_map}
use Rattle.std.proofs.lemmas.Option.{same_Some, none-some, slice_get_within, get_or_from_slice_get}
use Rattle.std.proofs.lemmas.List.Sums.{sum_by-set}

module _ {X : Type 0} where
  pub slice_get-set_same : (xs : List X) (i : ℕ) (v : X) → i < length xs → slice_get (slice_set xs i v) i ≡ Some v
  slice_get-set_same [] i v h = absurd (omega arith)
  slice_get-set_same (x ∷ xs) zero v h = refl
  slice_get-set_same (x ∷ xs) (suc i) v h = slice_get-set_same xs i v (omega arith)

  pub slice_get-set_other : (xs : List X) (i j : ℕ) (v : X) → j ≢ i → slice_get (slice_set xs i v) j ≡ slice_get xs j
  slice_get-set_other [] i j v h = refl
  slice_get-set_other (x ∷ xs) zero zero v h = absurd (h refl)
  slice_get-set_other (x ∷ xs) zero (suc j) v h = refl
  slice_get-set_other (x ∷ xs) (suc i) zero v h = refl
  slice_get-set_other (x ∷ xs) (suc i) (suc j) v h = slice_get-set_other xs i j v (λ e. h (ap suc e))

  -- an item after a write is the one that was written, or was there before
  pub after_set : (xs : List X) (i j : ℕ) (v y : X) → slice_get (slice_set xs i v) j ≡ Some y → (v ≡ y) ⊎ (slice_get xs j ≡ Some y)
  after_set [] i j v y h = inr h
  after_set (x ∷ xs) zero zero v y h = inl (same_Some v y h)
  after_set (x ∷ xs) zero (suc j) v y h = inr h
  after_set (x ∷ xs) (suc i) zero v y h = inr h
  after_set (x ∷ xs) (suc i) (suc j) v y h = after_set xs i j v y h

  -- an item after a push is the one that was pushed, or was there before
  pub after_push : (xs : List X) (j : ℕ) (v y : X) → slice_get (xs ++ v ∷ []) j ≡ Some y → (v ≡ y) ⊎ (slice_get xs j ≡ Some y)
  after_push [] zero v y h = inl (same_Some v y h)
  after_push [] (suc j) v y h = absurd (none-some y h)
  after_push (x ∷ xs) zero v y h = inr h
  after_push (x ∷ xs) (suc j) v y h = after_push xs j v y h

  -- an item after a write is the one that was written, at its place, or was there before at another place
  pub after_write : (xs : List X) (i j : ℕ) (v y : X) → slice_get (slice_set xs i v) j ≡ Some y → ((i ≡ j) × (v ≡ y)) ⊎ ((i ≢ j) × (slice_get xs j ≡ Some y))
  after_write [] i j v y h = absurd (none-some y h)
  after_write (x ∷ xs) zero zero v y h = inl (refl, same_Some v y h)
  after_write (x ∷ xs) zero (suc j) v y h = inr ((λ e. absurd (omega arith)), h)
  after_write (x ∷ xs) (suc i) zero v y h = inr ((λ e. absurd (omega arith)), h)
  after_write (x ∷ xs) (suc i) (suc j) v y h = elim (after_write xs i j v y h) [
    | inl p ↦ inl (ap suc p.0, p.1)
    | inr p ↦ inr ((λ e. p.0 (omega arith)), p.1)
  ]

  -- if there is no item at a place, the list has ended before it
  pub past_end : (xs : List X) (i : ℕ) → slice_get xs i ≡ None → length xs ≤ i
  past_end [] i h = omega arith
  past_end (x ∷ xs) zero h = absurd (none-some x (sym h))
  past_end (x ∷ xs) (suc i) h = let rest = past_end xs i h in omega (arith, rest)

  pub length_set : (xs : List X) (i : ℕ) (v : X) → length (slice_set xs i v) ≡ length xs
  length_set [] i v = refl
  length_set (x ∷ xs) zero v = refl
  length_set (x ∷ xs) (suc i) v = ap (λ n. suc n) (length_set xs i v)

  pub count_cleared : (xs : List (Option X)) (i : ℕ) (x : X) → slice_get xs i ≡ Some (Some x) → count_by is_some (slice_set xs i None) + 1 ≡ count_by is_some xs
  count_cleared xs i x h =
      (let e : get_or xs i None ≡ Some x = get_or_from_slice_get xs i (Some x) None h in
      let s = rw e at (sum_by-set (λ o. cond (is_some o) 1 0) xs i None None (slice_get_within xs i (Some x) h)) in omega (arith, s))

  pub count_filled : (xs : List (Option X)) (i : ℕ) (x : X) → slice_get xs i ≡ Some None → count_by is_some (slice_set xs i (Some x)) ≡ count_by is_some xs + 1
  count_filled xs i x h =
      (let e : get_or xs i None ≡ None = get_or_from_slice_get xs i None None h in
      let s = rw e at (sum_by-set (λ o. cond (is_some o) 1 0) xs i (Some x) None (slice_get_within xs i None h)) in omega (arith, s))

  pub count_some : (xs : List (Option X)) (i : ℕ) (x : X) → slice_get xs i ≡ Some (Some x) → 0 < count_by is_some xs
  count_some xs i x h = (let r = count_cleared xs i x h in omega arith)

  count_on : (g : X → X) (n : ℕ) (xs : List (Option X)) → fold (λ a x. a + cond (is_some x) 1 0) n (map (option_map g) xs) ≡ fold (λ a x. a + cond (is_some x) 1 0) n xs
  count_on g n [] = refl
  count_on g n (None ∷ xs) = count_on g (n + 0) xs
  count_on g n (Some x ∷ xs) = count_on g (n + 1) xs

  pub count_mapped : (g : X → X) (xs : List (Option X)) → count_by is_some (map (option_map g) xs) ≡ count_by is_some xs
  count_mapped g xs = count_on g 0 xs

  -- if all items that pass the second test pass the first, the second counts at most as many as the first
  module _ (p q : X → Bool) (weaker : (x : X) → q x ≡ true → p x ≡ true) where
    one_le : (x : X) → cond (q x) 1 0 ≤ cond (p x) 1 0
    one_le x = elim (q x) as (λ b. q x ≡ b → cond b 1 0 ≤ cond (p x) 1 0) [
      | true ↦ λ e. (let w : p x ≡ true = weaker x e in rw w (omega arith))
      | false ↦ λ e. omega arith
    ] refl

    counted_le : (xs : List X) (a b k : ℕ) → a + k ≤ b → fold (λ n x. n + cond (q x) 1 0) a xs + k ≤ fold (λ n x. n + cond (p x) 1 0) b xs
    counted_le [] a b k h = h
    counted_le (x ∷ xs) a b k h = counted_le xs (a + cond (q x) 1 0) (b + cond (p x) 1 0) k (let o = one_le x in omega (arith, o))

    counted_lt : (xs : List X) (a b i : ℕ) (x : X) → a ≤ b → slice_get xs i ≡ Some x → p x ≡ true → q x ≡ false → fold (λ n x. n + cond (q x) 1 0) a xs < fold (λ n x. n + cond (p x) 1 0) b xs
    counted_lt [] a b i x h g e f = absurd (none-some x g)
    counted_lt (y ∷ xs) a b zero x h g e f =
        (let same : y ≡ x = same_Some y x g in
        let one : ◌≡◌ {A = ℕ} (cond (p y) 1 0) 1 = ap (λ (v : Bool). cond {A = ℕ} v 1 0) (ap p same ∙ e) in
        let none : ◌≡◌ {A = ℕ} (cond (q y) 1 0) 0 = ap (λ (v : Bool). cond {A = ℕ} v 1 0) (ap q same ∙ f) in
        let h' : a + cond (q y) 1 0 + 1 ≤ b + cond (p y) 1 0 = rw (one, none) (omega arith) in let r = counted_le xs (a + cond (q y) 1 0) (b + cond (p y) 1 0) 1 h' in omega (arith, r))
    counted_lt (y ∷ xs) a b (suc i) x h g e f = counted_lt xs (a + cond (q y) 1 0) (b + cond (p y) 1 0) i x (let o = one_le y in omega (arith, o)) g e f

    pub count_at_most : (xs : List X) → count_by q xs ≤ count_by p xs
    count_at_most xs = (let h = counted_le xs 0 0 0 (omega arith) in omega (arith, h))

    pub count_less : (xs : List X) (i : ℕ) (x : X) → slice_get xs i ≡ Some x → p x ≡ true → q x ≡ false → count_by q xs < count_by p xs
    count_less xs i x g e f = counted_lt xs 0 0 i x (omega arith) g e f
