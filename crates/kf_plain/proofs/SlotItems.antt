-- Items by slot: what is read past the end, and the texts of a map.
use Rattle.std.proofs.Common.{◌≡◌, ℕ, zero, suc, List, [], ◌∷◌, map, replicate, refl, ap, sym, slice_set, get_or}
use Rattle.std.specs.Prelude.{Option, None, slice_get}
use Rattle.std.specs.Option.{option_and_then, option_map_or}
use Rattle.std.proofs.lemmas.Option.{none-some}

-- past the end, the default value is read
pub none_read : {X : Type 0} (xs : List X) (i : ℕ) (d : X) → slice_get xs i ≡ None → get_or xs i d ≡ d
none_read [] i d h = refl
none_read (x ∷ xs) zero d h = absurd (none-some x (sym h))
none_read (x ∷ xs) (suc i) d h = none_read xs i d h

-- mapping a list that repeats one item
pub map_replicate : {X Y : Type 0} (f : X → Y) (n : ℕ) (x : X) → map f (replicate n x) ≡ replicate n (f x)
map_replicate f zero x = refl
map_replicate f (suc n) x = ap (λ l. f x ∷ l) (map_replicate f n x)

-- the text of a slot is that of its value, or empty
pub text_read : {X : Type 0} (f : X → List ℕ) (xs : List (Option X)) (i : ℕ) → option_map_or f (option_and_then (λ x. x) (slice_get xs i)) [] ≡ get_or (map (λ x. option_map_or f x []) xs) i []
text_read f [] i = refl
text_read f (x ∷ xs) zero = refl
text_read f (x ∷ xs) (suc i) = text_read f xs i

-- of two writes to the same place, the second one stays
pub set_twice : {X : Type 0} (xs : List X) (i : ℕ) (x y : X) → slice_set (slice_set xs i x) i y ≡ slice_set xs i y
set_twice [] i x y = refl
set_twice (z ∷ xs) zero x y = refl
set_twice (z ∷ xs) (suc i) x y = ap (λ l. z ∷ l) (set_twice xs i x y)
