-- A number that is written in base 16 on its own line is read back as that number.
use Rattle.std.proofs.Common.{◌≡◌, ◌<◌, ◌≤◌, ◌^◌, ◌∙◌, ◌&&◌, ◌||◌, ℕ, zero, suc, Bool, true, false, cond, eqb, List, [], ◌∷◌, ◌++◌, length, drop, get_or, codes, ap, refl, sym, subst, arith, ne_eqb}
use Rattle.std.specs.Prelude.{Result, Ok}
use Rattle.std.specs.Char.{digit_value}
use Rattle.std.specs.Str.Parse.{AllDigits, IsNumeral, digits_value, without_leading_plus}
use Rattle.std.proofs.lemmas.Fmt.{digits_is_IsNumeral}
use Rattle.std.proofs.lemmas.Str.Parse.{without_leading_plus_none}
use Rattle.kf_text.specs.declared.base.Base.TheVariants.{Hex, ByPrefix}
use Rattle.kf_text.specs.declared.not_read.NotRead.{NotRead}
use Rattle.kf_text.specs.Readings.{begins_with_0x, digits_of, is_one_of, line, ReadNumber, ReadUnsignedIn}
use Rattle.kf_text.specs.Texts.{hex}
use Rattle.kf_text.proofs.Digits.{low}
use Rattle.kf_text.proofs.Emitted.{text_line, told}

-- neither `x` nor `X` is a digit
not_this : (digit x : ℕ) → digit_value digit < 16 → 16 ≤ digit_value x → eqb x digit ≡ false
not_this digit x below above =
    ne_eqb x digit (λ same. let clash = subst (λ n. 16 ≤ digit_value n) same above in omega (arith, below, clash))

not_x : (digit : ℕ) → digit_value digit < 16 → is_one_of (codes "xX") digit ≡ false
not_x digit below =
    ap (λ b. b || (eqb 88 digit || false)) (not_this digit 120 below (omega arith))
    ∙ ap (λ b. b || false) (not_this digit 88 below (omega arith))

and_false : (one other : Bool) → other ≡ false → (one && other) ≡ false
and_false true other fails = fails
and_false false other fails = refl

no_prefix : (digits : List ℕ) → AllDigits 16 digits → begins_with_0x digits ≡ false
no_prefix [] all = refl
no_prefix (digit ∷ []) all = and_false (eqb digit 48) _ refl
no_prefix (digit ∷ next ∷ digits) all = and_false (eqb digit 48) _ (not_x next all.1.0)

high : (digits : List ℕ) → AllDigits 16 digits → (k : ℕ) → k < length digits → 45 ≤ get_or digits k 0
high [] all k below = absurd (omega arith)
high (digit ∷ digits) all zero below = let byte = low digit all.0 in omega (arith, byte)
high (digit ∷ digits) all (suc k) below = high digits all.1 k (omega arith)

high_behind_0x : (digits : List ℕ) → AllDigits 16 digits → (k : ℕ) → k < length (48 ∷ 120 ∷ digits)
    → 45 ≤ get_or (48 ∷ 120 ∷ digits) k 0
high_behind_0x digits all zero below = omega arith
high_behind_0x digits all (suc zero) below = omega arith
high_behind_0x digits all (suc (suc k)) below = high digits all k (omega arith)

no_plus : (digits : List ℕ) → IsNumeral 16 digits → without_leading_plus digits ≡ digits
no_plus digits numeral =
    let first = high digits numeral.1 0 numeral.0 in
    without_leading_plus_none digits (λ same. absurd (omega (arith, first, same)))

numeral_of : (number : ℕ) → number < 2 ^ 64
    → IsNumeral 16 (hex number) × (digits_value 16 (hex number) ≡ number)
numeral_of number small = digits_is_IsNumeral 16 false (omega arith) (omega arith) number (omega arith)

pub hex_again : (number most : ℕ) (read : Result ℕ NotRead) → number < 2 ^ 64 → number ≤ most
    → ReadUnsignedIn Hex most (line (hex number ++ 10 ∷ [])) read → read ≡ Ok number
hex_again number most read small within told_so =
    let numeral = numeral_of number small in
    let whole : digits_of Hex (hex number) ≡ hex number =
    ap (λ b. cond b (drop 2 (hex number)) (hex number)) (no_prefix (hex number) numeral.0.1) in
    told Hex number most (hex number) read within (subst (IsNumeral 16) (sym whole) numeral.0)
    (ap (digits_value 16) whole ∙ numeral.1)
    (subst (λ text. ReadNumber Hex most text read) (no_plus (hex number) numeral.0)
    (subst (λ text. ReadUnsignedIn Hex most text read) (text_line (hex number) (high (hex number) numeral.0.1)) told_so))

pub prefixed_again : (number most : ℕ) (read : Result ℕ NotRead) → number < 2 ^ 64 → number ≤ most
    → ReadUnsignedIn ByPrefix most (line (48 ∷ 120 ∷ hex number ++ 10 ∷ [])) read → read ≡ Ok number
prefixed_again number most read small within told_so =
    let numeral = numeral_of number small in
    told ByPrefix number most (48 ∷ 120 ∷ hex number) read within numeral.0 numeral.1
    (subst (λ text. ReadUnsignedIn ByPrefix most text read)
    (text_line (48 ∷ 120 ∷ hex number) (high_behind_0x (hex number) numeral.0.1)) told_so)
