-- Digits in a base can be tested one by one, and they are text.
use Rattle.std.proofs.Common.{◌≡◌, ◌<◌, ◌≤◌, ◌∙◌, ◌&&◌, ℕ, Bool, List, [], ◌∷◌, true, false, length, ap, refl, arith, lt-ltb, ltb-true}
use Rattle.std.specs.Char.{digit_value, is_digit}
use Rattle.std.specs.List.{list_all}
use Rattle.std.specs.Str.{IsAscii, IsUtf8}
use Rattle.std.specs.Str.Parse.{AllDigits, IsNumeral}
use Rattle.std.proofs.lemmas.Bool.Decides.{nat_tests}
use Rattle.std.proofs.lemmas.Str.{IsUtf8-from_ascii}
use Rattle.std.proofs.lemmas.Str.Ascii.{IsAscii-cons, IsAscii-nil}

both : (a b : Bool) → a && b ≡ true → (a ≡ true) × (b ≡ true)
both true b holds = (refl, holds)
both false b holds = absurd (cc)

passed : (radix : ℕ) (ds : List ℕ) → list_all (λ byte. is_digit byte radix) ds ≡ true → AllDigits radix ds
passed radix [] tested = tt
passed radix (c ∷ cs) tested =
    let parts = both (is_digit c radix) (list_all (λ byte. is_digit byte radix) cs) tested in
    (ltb-true (digit_value c) radix parts.0, passed radix cs parts.1)

passes : (radix : ℕ) (ds : List ℕ) → AllDigits radix ds → list_all (λ byte. is_digit byte radix) ds ≡ true
passes radix [] all = refl
passes radix (c ∷ cs) all =
    ap (λ b. b && list_all (λ byte. is_digit byte radix) cs) (lt-ltb (digit_value c) radix all.0)
    ∙ passes radix cs all.1

pub numeral_from_test : (radix : ℕ) (ds : List ℕ) → 0 < length ds
    → list_all (λ byte. is_digit byte radix) ds ≡ true → IsNumeral radix ds
numeral_from_test radix ds some tested = (some, passed radix ds tested)

pub test_from_numeral : (radix : ℕ) (ds : List ℕ) → IsNumeral radix ds
    → list_all (λ byte. is_digit byte radix) ds ≡ true
test_from_numeral radix ds numeral = passes radix ds numeral.1

-- the byte of a digit is at least that of `0`, and it is ASCII
pub low : (c : ℕ) → digit_value c < 16 → 48 ≤ c
low c digit = grind (arith, nat_tests)

pub high : (c : ℕ) → digit_value c < 16 → c < 128
high c digit = grind (arith, nat_tests)

ascii : (radix : ℕ) (ds : List ℕ) → radix ≤ 16 → AllDigits radix ds → IsAscii ds
ascii radix [] small all = IsAscii-nil
ascii radix (c ∷ cs) small all =
    let below : c < 128 = high c (omega (arith, all.0)) in IsAscii-cons c cs below (ascii radix cs small all.1)

pub is_text : (radix : ℕ) (ds : List ℕ) → radix ≤ 16 → IsNumeral radix ds → IsUtf8 ds
is_text radix ds small numeral = IsUtf8-from_ascii ds (ascii radix ds small numeral.1)
