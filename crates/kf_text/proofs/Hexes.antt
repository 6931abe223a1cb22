-- Digits in base 16 are written from the last to the first.
use Rattle.std.proofs.Common.{◌≡◌, ◌<◌, ◌≤◌, ◌-◌, ◌+◌, ◌/◌, ◌%◌, ◌∙◌, ℕ, suc, false, cond, List, ◌∷◌, length, drop, set, ap, sym, subst, arith, eq-eqb, ne_eqb, drop_of_length-le}
use Rattle.std.specs.Fmt.{digit_glyph, digits, digits_onto}
use Rattle.std.proofs.lemmas.List.{drop-set}
use Rattle.kf_text.specs.Texts.{hex}

-- a digit, with the digits of what is left of the number in front of it
abbrev after_digit : ℕ → ℕ → List ℕ → List ℕ
after_digit room number tail = digits_onto room 16 false (number / 16) (digit_glyph false (number % 16) ∷ tail)

next : (room number : ℕ) (tail : List ℕ) → (number / 16 ≡ 0 → ⊥)
    → digits_onto (suc room) 16 false number tail ≡ after_digit room number tail
next room number tail left =
    ap (λ b. cond b (digit_glyph false (number % 16) ∷ tail) (after_digit room number tail)) (ne_eqb _ 0 left)

last : (room number : ℕ) (tail : List ℕ) → number / 16 ≡ 0
    → digits_onto (suc room) 16 false number tail ≡ digit_glyph false (number % 16) ∷ tail
last room number tail none =
    ap (λ b. cond b (digit_glyph false (number % 16) ∷ tail) (after_digit room number tail)) (eq-eqb _ 0 none)

-- the bytes from a digit on, after it is written in front of others
front : (bytes : List ℕ) (k byte digit : ℕ) → k < length bytes → byte ≡ digit
    → drop k (set bytes k byte) ≡ digit ∷ drop (suc k) bytes
front bytes k byte digit within same =
    let after : k + 1 ≡ suc k = omega arith in
    drop-set bytes k byte within ∙ ap (λ n. byte ∷ drop n bytes) after ∙ ap (λ b. b ∷ drop (suc k) bytes) same

pub begun : (bytes : List ℕ) (number : ℕ) → length bytes ≡ 64
    → digits_onto 64 16 false number (drop 64 bytes) ≡ hex number
unfolding digits
begun bytes number long =
    ap (digits_onto 64 16 false number) (drop_of_length-le bytes {i = 64} (omega arith))

-- the digits of the rest of the number, in front of the bytes from a place on, are the number in base 16
abbrev pub Writes : ℕ → ℕ → List ℕ → ℕ → Type 0
Writes at rest bytes number = digits_onto at 16 false rest (drop at bytes) ≡ hex number

one_back : (at rest number : ℕ) (bytes : List ℕ) → 0 < at → Writes at rest bytes number
    → Writes (suc (at - 1)) rest bytes number
one_back at rest number bytes some so_far =
    let back : at ≡ suc (at - 1) = omega arith in subst (λ n. Writes n rest bytes number) back so_far

pub more : (at rest number byte : ℕ) (bytes : List ℕ) → 0 < at → at ≤ length bytes
    → byte ≡ digit_glyph false (rest % 16) → (rest / 16 ≡ 0 → ⊥) → Writes at rest bytes number
    → Writes (at - 1) (rest / 16) (set bytes (at - 1) byte) number
more at rest number byte bytes some within same left so_far =
    ap (digits_onto (at - 1) 16 false (rest / 16)) (front bytes (at - 1) byte _ (omega arith) same)
    ∙ sym (next (at - 1) rest (drop (suc (at - 1)) bytes) left) ∙ one_back at rest number bytes some so_far

pub ended : (at rest number byte : ℕ) (bytes : List ℕ) → 0 < at → at ≤ length bytes
    → byte ≡ digit_glyph false (rest % 16) → rest / 16 ≡ 0 → Writes at rest bytes number
    → drop (at - 1) (set bytes (at - 1) byte) ≡ hex number
ended at rest number byte bytes some within same none so_far =
    front bytes (at - 1) byte _ (omega arith) same
    ∙ sym (last (at - 1) rest (drop (suc (at - 1)) bytes) none) ∙ one_back at rest number bytes some so_far
