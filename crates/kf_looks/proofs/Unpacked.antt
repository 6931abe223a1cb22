-- The bytes of a name, packed into numbers and back.
use Rattle.std.proofs.Common.{◌≡◌, ℕ, zero, suc, ◌+◌, ◌-◌, ◌*◌, ◌/◌, ◌%◌, ◌^◌, ◌<◌, ◌≤◌, List, [], ◌∷◌, ◌++◌, length, take, drop, get_or, refl, sym, ap, ◌∙◌, subst, arith, append-nil, add-one, add-zero}
use Rattle.std.proofs.lemmas.List.{append_assoc, drop-drop}
use Rattle.std.proofs.Math.Nat.{pow-le-pow_right, pow-suc, div-one, div-div-eq-div-mul, mul_comm}
use Rattle.std.proofs.Math.Seq.{take-add, take-append_seam}
use Rattle.std.proofs.lemmas.Nat.{pow-add}
use Rattle.std.proofs.lemmas.Grind.{pow_more}
use Rattle.kf_looks.specs.ShortNames.{bytes_before}

-- one more byte, behind the others
pub one_more : (count word byte : ℕ) (later : List ℕ) → byte < 256
    → bytes_before (count + 1) (word * 256 + byte) later ≡ bytes_before count word (byte ∷ later)
one_more count word byte later small =
    let high : (word * 256 + byte) / 256 ≡ word = omega arith in
    let low : (word * 256 + byte) % 256 ≡ byte = omega arith in
    subst (λ (n : ℕ). bytes_before n (word * 256 + byte) later ≡ bytes_before count word (byte ∷ later)) (sym (add-one count))
    (rw (high, low) refl)

-- a word of n bytes, and one more byte, stays below the next power of 256
pub below_more : (count word byte : ℕ) → word < 256 ^ count → byte < 256 → word * 256 + byte < 256 ^ (count + 1)
below_more count word byte below small =
    let next : 256 ^ (count + 1) ≡ 256 ^ count * 256 = pow_more 256 count in
    let p : ℕ = 256 ^ count in
    omega (arith, next, below, small)

-- if fewer than eight bytes are in a word, there is room for one more
pub room : (count word : ℕ) → count < 8 → word < 256 ^ count → word < 72057594037927936
room count word few below =
    let most : 256 ^ count ≤ 256 ^ 7 = pow-le-pow_right {n = 256} (omega arith) {i = count} {j = 7} (omega arith) in omega (arith, most, below)

-- one more item of a list
take_next : (xs : List ℕ) (i : ℕ) (later : List ℕ) → i < length xs → take (suc i) xs ++ later ≡ take i xs ++ get_or xs i 0 ∷ later
take_next [] i later inside = absurd (omega (arith, inside))
take_next (x ∷ xs) zero later inside = refl
take_next (x ∷ xs) (suc i) later inside = ap (λ (l : List ℕ). x ∷ l) (take_next xs i later (omega (arith, inside)))

pub take_more : (xs : List ℕ) (i : ℕ) (later : List ℕ) → i < length xs → take (i + 1) xs ++ later ≡ take i xs ++ get_or xs i 0 ∷ later
take_more xs i later inside = ap (λ (n : ℕ). take n xs ++ later) (add-one i) ∙ take_next xs i later inside

-- the words of three parts have the bytes of the whole name
pub name_front : (xs : List ℕ) (count two first second third : ℕ) → 8 ≤ two → two ≤ count
    → ((later : List ℕ) → bytes_before 8 first later ≡ take 8 xs ++ later)
    → ((later : List ℕ) → bytes_before (two - 8) second later ≡ take (two - 8) (drop 8 xs) ++ later)
    → ((later : List ℕ) → bytes_before (count - two) third later ≡ take (count - two) (drop two xs) ++ later)
    → bytes_before 8 first (bytes_before (two - 8) second (bytes_before (count - two) third [])) ≡ take count xs
name_front xs count two first second third low high a b c =
    let last : List ℕ = take (count - two) (drop two xs) in
    let z : bytes_before (count - two) third [] ≡ last = c [] ∙ append-nil last in
    let on : 8 + (two - 8) ≡ two = omega (arith, low) in
    let rest : drop two xs ≡ drop (two - 8) (drop 8 xs) = ap (λ (n : ℕ). drop n xs) (sym on) ∙ sym (drop-drop (two - 8) 8 xs) in
    let left : two - 8 + (count - two) ≡ count - 8 = omega (arith, low, high) in
    let both : take (two - 8) (drop 8 xs) ++ last ≡ take (count - 8) (drop 8 xs) =
    ap (λ (l : List ℕ). take (two - 8) (drop 8 xs) ++ take (count - two) l) rest
    ∙ (sym (take-add (two - 8) (count - two) (drop 8 xs)) ∙ ap (λ (n : ℕ). take n (drop 8 xs)) left) in
    let all : 8 + (count - 8) ≡ count = omega (arith, low, high) in
    ap (λ (l : List ℕ). bytes_before 8 first (bytes_before (two - 8) second l)) z
    ∙ (ap (bytes_before 8 first) (b last ∙ both) ∙ (a (take (count - 8) (drop 8 xs))
    ∙ (sym (take-add 8 (count - 8) xs) ∙ ap (λ (n : ℕ). take n xs) all)))

-- the highest bytes of a word are those of the word shifted down past the others
highest : (count others word : ℕ) (later : List ℕ)
    → bytes_before (others + count) word later ≡ bytes_before count (word / 256 ^ others) (bytes_before others word later)
highest count zero word later =
    let none : zero + count ≡ count = omega arith in
    ap (λ (n : ℕ). bytes_before n word later) none ∙ ap (λ (w : ℕ). bytes_before count w later) (sym (div-one word))
highest count (suc others) word later =
    let one : suc others + count ≡ suc (others + count) = omega arith in
    let next : 256 * 256 ^ others ≡ 256 ^ suc others = mul_comm 256 (256 ^ others) ∙ sym (pow-suc 256 others) in
    let less : word / 256 / 256 ^ others ≡ word / 256 ^ suc others = div-div-eq-div-mul word 256 (256 ^ others) ∙ ap (λ (n : ℕ). word / n) next in
    ap (λ (n : ℕ). bytes_before n word later) one
    ∙ (highest count others (word / 256) (word % 256 ∷ later)
    ∙ ap (λ (w : ℕ). bytes_before count w (bytes_before others (word / 256) (word % 256 ∷ later))) less)

-- the bytes of a word before others are the word's bytes followed by the others
behind : (count word : ℕ) (later : List ℕ) → bytes_before count word later ≡ bytes_before count word [] ++ later
behind zero word later = refl
behind (suc count) word later =
    behind count (word / 256) (word % 256 ∷ later)
    ∙ (sym (append_assoc (bytes_before count (word / 256) []) (word % 256 ∷ []) later)
    ∙ ap (λ (l : List ℕ). l ++ later) (sym (behind count (word / 256) (word % 256 ∷ []))))

so_many : (count word : ℕ) (later : List ℕ) → length (bytes_before count word later) ≡ count + length later
so_many zero word later = omega arith
so_many (suc count) word later = let more : length (word % 256 ∷ later) ≡ suc (length later) = refl in omega (arith, more, so_many count (word / 256) (word % 256 ∷ later))

-- a word of eight bytes, shifted down, has the first of them
pub first_of_eight : (count word : ℕ) (eight : List ℕ) → count ≤ 8 → ((later : List ℕ) → bytes_before 8 word later ≡ eight ++ later)
    → (later : List ℕ) → bytes_before count (word / 256 ^ (8 - count)) later ≡ take count eight ++ later
first_of_eight count word eight few all later =
    let high : ℕ = word / 256 ^ (8 - count) in let front : List ℕ = bytes_before count high [] in
    let rest : List ℕ = bytes_before (8 - count) word [] in
    let split : 8 ≡ 8 - count + count = omega (arith, few) in
    let whole : eight ≡ front ++ rest = sym (append-nil eight) ∙ (sym (all []) ∙ (ap (λ (n : ℕ). bytes_before n word []) split
    ∙ (highest count (8 - count) word [] ∙ behind count high rest))) in
    let size : length front ≡ count = so_many count high [] ∙ add-zero count in
    let same : take count eight ≡ front = ap (take count) whole ∙ (ap (λ (n : ℕ). take n (front ++ rest)) (sym size) ∙ take-append_seam front rest) in
    behind count high later ∙ ap (λ (l : List ℕ). l ++ later) (sym same)

-- n bytes are 8 * n bits
bits_of : (count : ℕ) → 2 ^ (8 * count) ≡ 256 ^ count
bits_of zero = refl
bits_of (suc count) =
    let more : 8 * suc count ≡ 8 * count + 8 = omega arith in
    ap (λ (n : ℕ). 2 ^ n) more ∙ (pow-add 2 (8 * count) 8 ∙ (ap (λ (n : ℕ). n * 256) (bits_of count) ∙ sym (pow-suc 256 count)))

pub bits_of_bytes : (count : ℕ) → count ≤ 8 → 2 ^ (64 - 8 * count) ≡ 256 ^ (8 - count)
bits_of_bytes count few = let bits : 64 - 8 * count ≡ 8 * (8 - count) = omega (arith, few) in ap (λ (n : ℕ). 2 ^ n) bits ∙ bits_of (8 - count)
