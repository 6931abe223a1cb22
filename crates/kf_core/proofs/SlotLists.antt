-- A list whose front is written, and whose rest repeats one item.
use Rattle.std.proofs.Common.{◌≡◌, ℕ, zero, suc, [], ◌∷◌, ◌+◌, ◌-◌, ◌<◌, ◌≤◌, List, ◌++◌, length, replicate, take, refl, sym, ap, ◌∙◌, slice_set, arith}
use Rattle.std.specs.Prelude.{Option, None, slice_get}
use Rattle.std.specs.Option.{option_and_then}
use Rattle.std.proofs.lemmas.List.{append_assoc, length-append, length-replicate, length-set, replicate-append-replicate, set-append_left, take_all}

-- writing some more of the rest changes nothing
pub rest_written : {T : Type 0} (xs ys : List T) (slots n : ℕ) (rest : T) → length xs ≤ n → n ≤ slots → ys ≡ take n xs ++ replicate (n - length xs) rest → ys ++ replicate (slots - length ys) rest ≡ xs ++ replicate (slots - length xs) rest
rest_written xs ys slots n rest few within is =
    let run = replicate (n - length xs) rest in
    let e : ys ≡ xs ++ run = is ∙ ap (λ l. l ++ run) (take_all n xs few) in
    let many : length ys ≡ length xs + (n - length xs) = ap length e ∙ length-append xs run ∙ ap (λ k. length xs + k) (length-replicate (n - length xs) rest) in
    let left : (n - length xs) + (slots - length ys) ≡ slots - length xs = omega (arith, many, few, within) in
    ap (λ l. l ++ replicate (slots - length ys) rest) e ∙ append_assoc xs run (replicate (slots - length ys) rest) ∙ ap (λ l. xs ++ l) (replicate-append-replicate (n - length xs) (slots - length ys) rest ∙ ap (λ k. replicate k rest) left)

-- a change of an item of the front is a change of the whole list at that place
pub front_set : {T : Type 0} (xs : List T) (slots slot : ℕ) (rest item : T) → slot < length xs → slice_set xs slot item ++ replicate (slots - length (slice_set xs slot item)) rest ≡ slice_set (xs ++ replicate (slots - length xs) rest) slot item
front_set xs slots slot rest item within =
    ap (λ n. slice_set xs slot item ++ replicate (slots - n) rest) (length-set xs slot item) ∙ sym (set-append_left xs (replicate (slots - length xs) rest) slot item within)

-- the same for a list that is known to be this front and this rest
pub written : {T : Type 0} (xs ys : List T) (slots slot : ℕ) (rest item : T) → slot < length xs → xs ++ replicate (slots - length xs) rest ≡ ys → slice_set xs slot item ++ replicate (slots - length (slice_set xs slot item)) rest ≡ slice_set ys slot item
written xs ys slots slot rest item within is = front_set xs slots slot rest item within ∙ ap (λ l. slice_set l slot item) is

-- an item of the front is read from the front
pub front_read : {T : Type 0} (xs ys : List T) (slot : ℕ) → slot < length xs → slice_get (xs ++ ys) slot ≡ slice_get xs slot
front_read [] ys slot within = absurd (omega (arith, within))
front_read (x ∷ xs) ys zero within = refl
front_read (x ∷ xs) ys (suc slot) within = front_read xs ys slot (omega (arith, within))

-- past the front, writing the item of the rest changes nothing
pub rest_set : {T : Type 0} (xs : List T) (n slot : ℕ) (rest : T) → length xs ≤ slot → slice_set (xs ++ replicate n rest) slot rest ≡ xs ++ replicate n rest
rest_set [] zero slot rest past = refl
rest_set [] (suc n) zero rest past = refl
rest_set [] (suc n) (suc slot) rest past = ap (λ l. rest ∷ l) (rest_set [] n slot rest (omega arith))
rest_set (x ∷ xs) n zero rest past = absurd (omega (arith, past))
rest_set (x ∷ xs) n (suc slot) rest past = ap (λ l. x ∷ l) (rest_set xs n slot rest (omega (arith, past)))

-- past the front there is no value
pub rest_none : {X : Type 0} (xs : List (Option X)) (n slot : ℕ) → length xs ≤ slot → option_and_then (λ item. item) (slice_get (xs ++ replicate n None) slot) ≡ None
rest_none [] zero slot past = refl
rest_none [] (suc n) zero past = refl
rest_none [] (suc n) (suc slot) past = rest_none [] n slot (omega arith)
rest_none (x ∷ xs) n zero past = absurd (omega (arith, past))
rest_none (x ∷ xs) n (suc slot) past = rest_none xs n slot (omega (arith, past))

-- writing one more item of the rest changes nothing
pub one_written : {T : Type 0} (xs : List T) (slots : ℕ) (rest : T) → length xs < slots → (xs ++ rest ∷ []) ++ replicate (slots - length (xs ++ rest ∷ [])) rest ≡ xs ++ replicate (slots - length xs) rest
one_written xs slots rest within =
    let more : length xs + 1 - length xs ≡ 1 = omega arith in
    let one : replicate (length xs + 1 - length xs) rest ≡ rest ∷ [] = ap (λ k. replicate k rest) more in
    let all : take (length xs + 1) xs ≡ xs = take_all (length xs + 1) xs (omega arith) in
    rest_written xs (xs ++ rest ∷ []) slots (length xs + 1) rest (omega arith) (omega (arith, within)) (sym (ap (λ l. l ++ replicate (length xs + 1 - length xs) rest) all ∙ ap (λ l. xs ++ l) one))
