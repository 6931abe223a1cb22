-- A row at the end of a list, whose items are changed one after another.
use Rattle.std.proofs.Common.{◌≡◌, ℕ, zero, suc, ◌+◌, ◌<◌, ◌≤◌, refl, ap, arith, sym, ◌∙◌, List, [], ◌∷◌, ◌++◌, length, take, drop, slice_set, append_assoc}
use Rattle.std.specs.Prelude.{Some, slice_get, slice_index_or, map}
use Rattle.std.proofs.lemmas.Option.{none-some}
use Rattle.std.proofs.lemmas.List.{append-nil, map-append, length-append, length-map, length-take-le, set_at, take_all, drop_all, take_more, drop_more}

module _ {X : Type 0} where
  pub slice_get_at : (front : List X) (x : X) (rest : List X) (n : ℕ) → length front ≡ n → slice_get (front ++ x ∷ rest) n ≡ Some x
  slice_get_at [] x rest n e = ap (λ m. slice_get (x ∷ rest) m) (sym e)
  slice_get_at (y ∷ ys) x rest n e = ap (λ m. slice_get (y ∷ ys ++ x ∷ rest) m) (sym e) ∙ slice_get_at ys x rest (length ys) refl

  pub slice_get_front : (xs : List X) (n i : ℕ) (x : X) → slice_get (take n xs) i ≡ Some x → slice_get xs i ≡ Some x
  slice_get_front [] zero i x h = h
  slice_get_front [] (suc n) i x h = h
  slice_get_front (y ∷ ys) zero i x h = absurd (no_item i h)
    where
      no_item : (i : ℕ) → slice_get [] i ≡ Some x → ⊥
      no_item zero e = none-some x e
      no_item (suc i) e = none-some x e
  slice_get_front (y ∷ ys) (suc n) zero x h = h
  slice_get_front (y ∷ ys) (suc n) (suc i) x h = slice_get_front ys n i x h

module _ {X : Type 0} (f : X → X) (front row : List X) where
  -- the list after this many items of the row, from its first one on, were changed
  abbrev pub partly : ℕ → List X
  partly i = (front ++ map f (take i row)) ++ drop i row

  pub partly_none : front ++ row ≡ partly 0
  partly_none = ap (λ l. l ++ row) (sym (append-nil front))

  pub partly_all : (i : ℕ) → length row ≤ i → partly i ≡ front ++ map f row
  partly_all i h = ap (λ l. (front ++ map f (take i row)) ++ l) (drop_all i row h) ∙ append-nil (front ++ map f (take i row)) ∙ ap (λ l. front ++ map f l) (take_all i row h)

  place : (i n : ℕ) → i < length row → length front + i ≡ n → length (front ++ map f (take i row)) ≡ n
  place i n h e =
      (let a = length-append front (map f (take i row)) in
      let b = length-map (take i row) f in
      let c = length-take-le i row (omega (arith, h)) in
      omega (arith, a, b, c, e))

  pub partly_at : (i n : ℕ) (d : X) → i < length row → length front + i ≡ n → slice_get (partly i) n ≡ Some (slice_index_or row i d)
  partly_at i n d h e = ap (λ l. slice_get ((front ++ map f (take i row)) ++ l) n) (drop_more row i d h)
      ∙ slice_get_at (front ++ map f (take i row)) (slice_index_or row i d) (drop (i + 1) row) n (place i n h e)

  pub partly_more : (i n : ℕ) (d : X) → i < length row → length front + i ≡ n → slice_set (partly i) n (f (slice_index_or row i d)) ≡ partly (i + 1)
  partly_more i n d h e =
      (let x = slice_index_or row i d in
      let done = map f (take i row) in
      let rest = drop (i + 1) row in
      ap (λ l. slice_set ((front ++ done) ++ l) n (f x)) (drop_more row i d h)
      ∙ set_at (front ++ done) x rest (f x) n (place i n h e)
      ∙ sym (append_assoc (front ++ done) (f x ∷ []) rest)
      ∙ ap (λ l. l ++ rest) (append_assoc front done (f x ∷ []))
      ∙ sym (ap (λ l. (front ++ map f l) ++ rest) (take_more row i d h) ∙ ap (λ l. (front ++ l) ++ rest) (map-append f (take i row) (x ∷ []))))
