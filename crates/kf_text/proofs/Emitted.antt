-- A number that is written on its own line is read back as that number.
use Rattle.std.proofs.Common.{◌≡◌, ◌<◌, ◌≤◌, ◌≤ℤ◌, ◌<ℤ◌, ◌+◌, ◌-◌, ◌^◌, ◌∙◌, ℕ, ℤ, zero, suc, pos, negsuc, neg_ℤ, FitsSigned, w64, true, false, cond, eqb, List, [], ◌∷◌, ◌++◌, length, take, drop, get_or, inl, inr, ap, refl, sym, subst, arith}
use Rattle.std.specs.Prelude.{◌==◌, ◌⊎◌, Result, Ok, Err}
use Rattle.std.specs.List.{position_or_len}
use Rattle.std.specs.Str.Parse.{IsNumeral, digits_value, starts_with_minus, signed_digits_value, without_leading_plus, without_leading_sign}
use Rattle.std.specs.Int.Signed.{clash_ℤ}
use Rattle.std.specs.Fmt.{decimal, signed_decimal}
use Rattle.std.proofs.lemmas.Fmt.{decimal_is_IsNumeral}
use Rattle.std.proofs.lemmas.List.{length-append, take_all}
use Rattle.std.proofs.lemmas.List.Sums.{position_or_len_is}
use Rattle.std.proofs.lemmas.List.Folds.{position_or_len_push}
use Rattle.std.proofs.lemmas.Bool.Decides.{nat_tests}
use Rattle.std.proofs.Math.Seq.{take-append_seam}
use Rattle.std.proofs.lemmas.Str.Parse.{digit_at, without_leading_plus_none}
use Rattle.kf_text.specs.declared.base.Base.{Base}
use Rattle.kf_text.specs.declared.base.Base.TheVariants.{Decimal}
use Rattle.kf_text.specs.declared.not_read.NotRead.{NotRead}
use Rattle.kf_text.specs.declared.not_read.NotRead.TheVariants.{Invalid, Range}
use Rattle.kf_text.specs.Readings.{line, number_in, until_zero, without_newline, IsNumber, ReadNumber, ReadSigned, ReadUnsigned}

-- the last byte of a line is its newline
last : (text : List ℕ) → get_or (text ++ 10 ∷ []) (length text) 0 ≡ 10
last [] = refl
last (byte ∷ text) = last text

line_of : (text : List ℕ) → without_newline (text ++ 10 ∷ []) ≡ text
line_of text =
    let short : length (text ++ 10 ∷ []) - 1 ≡ length text = simp length-append (omega arith) in
    let same : eqb (get_or (text ++ 10 ∷ []) (length text) 0) 10 ≡ true = ap (λ b. eqb b 10) (last text) in
    ap (λ n. cond (eqb (get_or (text ++ 10 ∷ []) n 0) 10) (take n (text ++ 10 ∷ [])) (text ++ 10 ∷ [])) short
    ∙ ap (λ b. cond b (take (length text) (text ++ 10 ∷ [])) (text ++ 10 ∷ [])) same
    ∙ take-append_seam text (10 ∷ [])

not_zero : (byte : ℕ) → 45 ≤ byte → (byte == 0) ≡ false
not_zero byte high = grind (arith, nat_tests)

-- a line of digits and signs has no zero byte, so it is read as a whole
no_zero : (text : List ℕ) → ((k : ℕ) → k < length text → 45 ≤ get_or text k 0)
    → until_zero (text ++ 10 ∷ []) ≡ text ++ 10 ∷ []
no_zero text high =
    let front : position_or_len (λ byte. byte == 0) text ≡ length text =
    position_or_len_is (λ byte. byte == 0) text (length text) 0 (omega arith)
    (λ k below. not_zero _ (high k below)) (λ below. absurd (omega arith)) in
    let end : position_or_len (λ byte. byte == 0) (text ++ 10 ∷ []) ≡ length text + 1 =
    position_or_len_push (λ byte. byte == 0) text 10 ∙ grind (arith, nat_tests) in
    take_all _ (text ++ 10 ∷ []) (simp length-append (omega arith))

high_digits : (digits : List ℕ) → IsNumeral 10 digits → (k : ℕ) → k < length digits → 45 ≤ get_or digits k 0
high_digits digits numeral k below = let digit = digit_at digits k numeral.1 below in omega (arith, digit)

high_after_minus : (digits : List ℕ) → IsNumeral 10 digits → (k : ℕ) → k < length (45 ∷ digits)
    → 45 ≤ get_or (45 ∷ digits) k 0
high_after_minus digits numeral zero below = omega arith
high_after_minus digits numeral (suc k) below = high_digits digits numeral k (omega arith)

-- such a text with a newline after it is a line
pub text_line : (text : List ℕ) → ((k : ℕ) → k < length text → 45 ≤ get_or text k 0)
    → line (text ++ 10 ∷ []) ≡ text
text_line text high = ap without_newline (no_zero text high) ∙ line_of text

no_plus : (number : ℕ) → number < 2 ^ 64 → without_leading_plus (decimal number) ≡ decimal number
no_plus number small =
    let numeral = (decimal_is_IsNumeral number small).0 in
    let first = digit_at (decimal number) 0 numeral.1 numeral.0 in
    without_leading_plus_none (decimal number) (λ same. absurd (omega (arith, first, same)))

-- the text of a number is read as that number
pub told : (base : Base) (number most : ℕ) (text : List ℕ) (read : Result ℕ NotRead) → number ≤ most
    → IsNumber base text → number_in base text ≡ number → ReadNumber base most text read → read ≡ Ok number
told base number most text (Ok n) within numeral value read = ap Ok (read.1 ∙ value)
told base number most text (Err Invalid) within numeral value read = absurd (read numeral)
told base number most text (Err Range) within numeral value read =
    let above : most < number = subst (λ n. most < n) value read.1 in absurd (omega arith)

pub read_again : (number most : ℕ) (read : Result ℕ NotRead) → number < 2 ^ 64 → number ≤ most
    → ReadUnsigned most (line (decimal number ++ 10 ∷ [])) read → read ≡ Ok number
read_again number most read small within told_so =
    let numeral = decimal_is_IsNumeral number small in
    told Decimal number most (decimal number) read within numeral.0 numeral.1
    (subst (λ text. ReadNumber Decimal most text read) (no_plus number small)
    (subst (λ text. ReadUnsigned most text read) (text_line (decimal number) (high_digits (decimal number) numeral.0))
    told_so))

-- ---- numbers with a sign

no_minus : (byte : ℕ) → 48 ≤ byte → (byte == 45) ≡ false
no_minus byte digit = grind (arith, nat_tests)

no_sign : (number : ℕ) → number < 2 ^ 64 → starts_with_minus (decimal number) ≡ false
no_sign number small =
    let numeral = (decimal_is_IsNumeral number small).0 in
    let first = digit_at (decimal number) 0 numeral.1 numeral.0 in no_minus _ (omega (arith, first))

plain : (number : ℕ) → number < 2 ^ 64 → without_leading_sign (decimal number) ≡ decimal number
plain number small =
    ap (λ b. cond b (drop 1 (decimal number)) (without_leading_plus (decimal number))) (no_sign number small)
    ∙ no_plus number small

-- the text that is written for a number has that number as its value
says : (number : ℤ) → FitsSigned w64 number
    → IsNumeral 10 (without_leading_sign (signed_decimal number))
    × (signed_digits_value 10 (signed_decimal number) ≡ number)
says (pos n) fits =
    let small : n < 2 ^ 64 = omega (arith, fits.sfits) in
    let numeral = decimal_is_IsNumeral n small in (
      subst (IsNumeral 10) (sym (plain n small)) numeral.0,
      ap (λ b. cond b (neg_ℤ (pos (digits_value 10 (without_leading_sign (decimal n)))))
          (pos (digits_value 10 (without_leading_sign (decimal n))))) (no_sign n small)
          ∙ ap (λ digits. pos (digits_value 10 digits)) (plain n small) ∙ ap pos numeral.1,
    )
says (negsuc n) fits =
    let numeral = decimal_is_IsNumeral (suc n) (omega (arith, fits.sfits)) in
    (numeral.0, ap (λ m. neg_ℤ (pos m)) numeral.1)

high : (number : ℤ) → FitsSigned w64 number → (k : ℕ) → k < length (signed_decimal number)
    → 45 ≤ get_or (signed_decimal number) k 0
high (pos n) fits = high_digits (decimal n) (decimal_is_IsNumeral n (omega (arith, fits.sfits))).0
high (negsuc n) fits =
    high_after_minus (decimal (suc n)) (decimal_is_IsNumeral (suc n) (omega (arith, fits.sfits))).0

-- a number in a range is not outside it
out : {X : Type 0} {number least most : ℤ} → (number <ℤ least) ⊎ (most <ℤ number) → least ≤ℤ number
    → number ≤ℤ most → X
out (inl under) above below = clash_ℤ under above
out (inr over) above below = clash_ℤ over below

told_signed : (number least most : ℤ) (text : List ℕ) (read : Result ℤ NotRead) → least ≤ℤ number
    → number ≤ℤ most → IsNumeral 10 (without_leading_sign text) → signed_digits_value 10 text ≡ number
    → ReadSigned least most text read → read ≡ Ok number
told_signed number least most text (Ok n) above below numeral value read = ap Ok (read.1 ∙ value)
told_signed number least most text (Err Invalid) above below numeral value read = absurd (read numeral)
told_signed number least most text (Err Range) above below numeral value read =
    out (subst (λ n. (n <ℤ least) ⊎ (most <ℤ n)) value read.1) above below

pub signed_again : (number least most : ℤ) (read : Result ℤ NotRead) → FitsSigned w64 number
    → least ≤ℤ number → number ≤ℤ most
    → ReadSigned least most (line (signed_decimal number ++ 10 ∷ [])) read → read ≡ Ok number
signed_again number least most read fits above below told_so =
    let said = says number fits in
    told_signed number least most (signed_decimal number) read above below said.0 said.1
    (subst (λ text. ReadSigned least most text read) (text_line (signed_decimal number) (high number fits)) told_so)
