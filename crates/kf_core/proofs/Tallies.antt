-- How a write or one more item changes the number of items that pass a test, and what this number says.
use Rattle.std.proofs.Common.{◌≡◌, ℕ, zero, suc, ◌+◌, ◌≤◌, List, [], ◌∷◌, ◌++◌, refl, ap, arith, slice_set, sym, ◌∙◌, subst, Bool, true, false}
use Rattle.std.specs.Prelude.{slice_get, Some, count_by}
use Rattle.std.proofs.lemmas.Option.{same_Some, none-some, slice_get_within, get_or_from_slice_get}
use Rattle.std.proofs.lemmas.List.Sums.{sum_by-set, sum_by_push, sum_by-cons}
use Rattle.kf_core.specs.Tallies.{tally}

module _ {X : Type 0} (p : X → Bool) where
  -- a write takes the old item out of the count, and puts the new one in
  pub count_set : (xs : List X) (i : ℕ) (x v : X) → slice_get xs i ≡ Some x → count_by p (slice_set xs i v) + tally (p x) ≡ count_by p xs + tally (p v)
  count_set xs i x v h = subst (λ (y : X). count_by p (slice_set xs i v) + tally (p y) ≡ count_by p xs + tally (p v)) (get_or_from_slice_get xs i x x h) (sum_by-set (λ (y : X). tally (p y)) xs i v x (slice_get_within xs i x h))

  pub count_push : (xs : List X) (v : X) → count_by p (xs ++ v ∷ []) ≡ count_by p xs + tally (p v)
  count_push xs v = sum_by_push (λ (y : X). tally (p y)) xs v

  pub count_cons : (x : X) (xs : List X) → count_by p (x ∷ xs) ≡ tally (p x) + count_by p xs
  count_cons x xs = sum_by-cons (λ (y : X). tally (p y)) x xs

  tally_none : (b : Bool) (n : ℕ) → tally b + n ≡ 0 → b ≡ false
  tally_none true n e = absurd (omega arith)
  tally_none false n e = refl

  -- if the count is 0, no item passes
  pub count_none : (xs : List X) → count_by p xs ≡ 0 → (i : ℕ) (x : X) → slice_get xs i ≡ Some x → p x ≡ false
  count_none [] e i x h = absurd (none-some x h)
  count_none (y ∷ ys) e zero x h = ap p (sym (same_Some y x h)) ∙ tally_none (p y) (count_by p ys) (sym (count_cons y ys) ∙ e)
  count_none (y ∷ ys) e (suc i) x h = count_none ys (let s : tally (p y) + count_by p ys ≡ 0 = sym (count_cons y ys) ∙ e in omega arith) i x h

  pub count_zero : (xs : List X) → ((i : ℕ) (x : X) → slice_get xs i ≡ Some x → p x ≡ false) → count_by p xs ≡ 0
  count_zero [] none = refl
  count_zero (y ∷ ys) none =
      let c : count_by p (y ∷ ys) ≡ tally (p y) + count_by p ys = count_cons y ys in
      let t : tally (p y) ≡ 0 = ap tally (none 0 y refl) in
      let r : count_by p ys ≡ 0 = count_zero ys (λ i x h. none (suc i) x h) in
      omega arith

  pub record Passing (xs : List X) : Type 0 where
    pub place : ℕ
    pub item : X
    pub there : slice_get xs place ≡ Some item
    pub passes : p item ≡ true

  -- if the count is not 0, some item passes
  pub count_some : (xs : List X) → 1 ≤ count_by p xs → Passing xs
  count_some [] h = absurd (omega arith)
  count_some (y ∷ ys) h = elim (p y) as (λ b. p y ≡ b → Passing (y ∷ ys)) [
    | true ↦ λ e. record { place = 0; item = y; there = refl; passes = e }
    | false ↦ λ e. (let c : count_by p (y ∷ ys) ≡ tally false + count_by p ys = count_cons y ys ∙ ap (λ b. tally b + count_by p ys) e in
        let r : Passing ys = count_some ys (omega arith) in
        record { place = suc r.place; item = r.item; there = r.there; passes = r.passes })
  ] refl

-- two truth values that imply each other are equal
pub same_bool : (a b : Bool) → (a ≡ true → b ≡ true) → (b ≡ true → a ≡ true) → a ≡ b
same_bool true b f g = sym (f refl)
same_bool false true f g = g refl
same_bool false false f g = refl
