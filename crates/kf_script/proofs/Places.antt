-- The place of a byte, found by a search.
use Rattle.std.proofs.Common.{◌≡◌, ℕ, ◌<◌, ◌≤◌, Bool, true, false, List, [], ◌∷◌, ◌+◌, ◌++◌, All, Option, Some, None, length, position, get_or, take, drop, take-append-drop, add-one, cond, refl, sym, ap, ◌∙◌, append_assoc, length-take, arith, inl, inr}
use Rattle.std.specs.List.{position_or_len, prefix_len}
use Rattle.std.specs.Simd.Lanes.{chunk}
use Rattle.std.proofs.lemmas.Simd.{run_in_chunk_fails, run_in_chunk_stops}
use Rattle.std.specs.Prelude.{◌==◌, not}
use Rattle.std.proofs.Math.Seq.{drop-cons}
use Rattle.std.proofs.lemmas.List.Sums.{position_or_len_is, fails_before_first}
use Rattle.std.proofs.lemmas.List.Quantifiers.{position-Some}
use Rattle.std.proofs.lemmas.List.Elements.{All-from_get_or}
use Rattle.std.proofs.lemmas.Bool.Decides.{nat_tests, eqb_tells, leb_tells}
use Rattle.std.proofs.lemmas.List.{get_or-take}
use borrow.Author.Tests.{ltb-false}
use Rattle.memchr.specs.Find.{IsFirstByte, is_byte}

refuted : (b : Bool) → (b ≡ true → ⊥) → b ≡ false
refuted true h = absurd (h refl)
refuted false h = refl

-- the place of the first byte that passes, unless the search came to the end
placed : (p : ℕ → Bool) (bytes : List ℕ) (at : ℕ) → position_or_len p bytes ≡ at → at < length bytes → Some at ≡ position p bytes
placed p bytes at e inside = grind (arith, nat_tests)

nowhere : (p : ℕ → Bool) (bytes : List ℕ) → position_or_len p bytes ≡ length bytes → None ≡ position p bytes
nowhere p bytes e = grind (arith, nat_tests)

pub first_place : (byte : ℕ) (bytes : List ℕ) (result : Option ℕ) → IsFirstByte (is_byte byte) bytes result → result ≡ position (λ b. b == byte) bytes
first_place byte bytes None none =
    nowhere (λ b. b == byte) bytes (
    position_or_len_is (λ b. b == byte) bytes (length bytes) 0 (omega arith) (λ k below. refuted _ (none k (omega arith) below)) (λ below. absurd (omega arith))
    )
first_place byte bytes (Some at) (first, here) =
    placed (λ b. b == byte) bytes at (
    position_or_len_is (λ b. b == byte) bytes at 0 (omega (arith, first.high)) (λ k below. refuted _ (first.before k (omega arith) below)) (λ inside. here)
    ) first.high

-- the same, stated byte by byte
place_here : (byte : ℕ) (bytes : List ℕ) (at : ℕ) → at < length bytes → ((k : ℕ) → k < at → (get_or bytes k 0 == byte) ≡ false)
    → (get_or bytes at 0 == byte) ≡ true → Some at ≡ position (λ b. b == byte) bytes
place_here byte bytes at inside before here =
    placed (λ b. b == byte) bytes at (position_or_len_is (λ b. b == byte) bytes at 0 (omega (arith, inside)) before (λ _. here)) inside

place_nowhere : (byte : ℕ) (bytes : List ℕ) → ((k : ℕ) → k < length bytes → (get_or bytes k 0 == byte) ≡ false)
    → None ≡ position (λ b. b == byte) bytes
place_nowhere byte bytes none =
    nowhere (λ b. b == byte) bytes (position_or_len_is (λ b. b == byte) bytes (length bytes) 0 (omega arith) none (λ below. absurd (omega arith)))

-- how many of the n bytes from a place on come before the first byte of this value
abbrev before : ℕ → List ℕ → ℕ → ℕ → ℕ
before byte bytes from n = prefix_len (λ b. not (b == byte)) (chunk from n bytes)

-- none of the first n bytes has this value, nor any byte before the first such one of the n from a place on
none_before : (byte : ℕ) (bytes : List ℕ) (n from first next : ℕ) → from ≤ n → from + n ≤ length bytes
    → first ≡ before byte bytes 0 n → n ≤ first → next ≡ before byte bytes from n
    → (k : ℕ) → k < from + next → (get_or bytes k 0 == byte) ≡ false
none_before byte bytes n from first next near room counted all later k below = elim (leb_tells from k) [
  | inl (is, far) ↦ run_in_chunk_fails (λ b. b == byte) bytes from n next 0 room later k far below
  | inr (is, front) ↦ run_in_chunk_fails (λ b. b == byte) bytes 0 n first 0 (omega arith) counted k (omega arith) (omega arith)
]

-- the byte is among the n from a place on, and not among the first n
pub in_next : (byte : ℕ) (bytes : List ℕ) (n from first next : ℕ) → from ≤ n → from + n ≤ length bytes
    → first ≡ before byte bytes 0 n → n ≤ first → next ≡ before byte bytes from n → next < n
    → Some (from + next) ≡ position (λ b. b == byte) bytes
in_next byte bytes n from first next near room counted all later short =
    place_here byte bytes (from + next) (omega arith) (none_before byte bytes n from first next near room counted all later)
    (run_in_chunk_stops (λ b. b == byte) bytes from n next 0 room later short)

-- the byte is in neither part, and the two parts are all
pub in_neither : (byte : ℕ) (bytes : List ℕ) (n from first next : ℕ) → from ≤ n → from + n ≡ length bytes
    → first ≡ before byte bytes 0 n → n ≤ first → next ≡ before byte bytes from n → n ≤ next
    → None ≡ position (λ b. b == byte) bytes
in_neither byte bytes n from first next near whole counted all later over =
    place_nowhere byte bytes (λ k below. none_before byte bytes n from first next near (omega arith) counted all later k (omega arith))

-- ---- what comes before the place, at it and after it

none_of : (b : Bool) (n : ℕ) → None ≡ cond b (Some n) None → b ≡ false
none_of true n e = absurd (cc)
none_of false n e = refl

-- if no byte passes, the search comes to the end
pub far : (p : ℕ → Bool) (bytes : List ℕ) → None ≡ position p bytes → length bytes ≤ position_or_len p bytes
far p bytes e = ltb-false _ _ (none_of _ (position_or_len p bytes) e)

pub all_before : (p : ℕ → Bool) (bytes : List ℕ) (at : ℕ) → Some at ≡ position p bytes → All (λ byte. p byte ≡ false) (take at bytes)
all_before p bytes at e =
    let (inside, here, before) = position-Some p bytes at 0 (sym e) in
    All-from_get_or (λ byte. p byte ≡ false) (take at bytes) 0 (λ i below.
    let near : i < at = omega (arith, length-take at bytes) in
    rw (get_or-take at bytes i 0 near) (before i near))

pub all_fail : (p : ℕ → Bool) (bytes : List ℕ) → None ≡ position p bytes → All (λ byte. p byte ≡ false) bytes
all_fail p bytes e =
    let past = far p bytes e in
    All-from_get_or (λ byte. p byte ≡ false) bytes 0 (λ i below. fails_before_first p bytes i 0 (omega arith))

same_byte : (a b : ℕ) → (a == b) ≡ true → a ≡ b
same_byte a b e = elim (eqb_tells a b) [
  | inl (is, same) ↦ same
  | inr (is, other) ↦ absurd (cc)
]

-- the bytes are those before the first such byte, that byte, and those that follow it
pub around : (byte : ℕ) (bytes : List ℕ) (at : ℕ) → Some at ≡ position (λ b. b == byte) bytes → bytes ≡ (take at bytes ++ byte ∷ []) ++ drop (at + 1) bytes
around byte bytes at e =
    let (inside, here, before) = position-Some (λ b. b == byte) bytes at 0 (sym e) in
    let is : get_or bytes at 0 ≡ byte = same_byte _ _ here in
    sym (take-append-drop at bytes)
    ∙ ap (λ l. take at bytes ++ l) (rw add-one (drop-cons bytes at 0 inside))
    ∙ ap (λ b. take at bytes ++ (b ∷ drop (at + 1) bytes)) is
    ∙ sym (append_assoc (take at bytes) (byte ∷ []) (drop (at + 1) bytes))
