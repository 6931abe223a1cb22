-- Whether a line is a text with a newline after it.
use Rattle.std.proofs.Common.{◌≡◌, ◌≢◌, ℕ, Bool, true, false, List, [], ◌∷◌, ◌++◌, length, sym, ap, ◌∙◌, refl, arith}
use Rattle.std.specs.Str.{bytes_eq}
use Rattle.std.proofs.lemmas.List.{same_from_push}
use Rattle.std.proofs.lemmas.Slice.Eq.{bytes_eq-Decides}
use Rattle.kf_text.specs.Readings.{with_newline}

-- two tests of the same fact have the same result
same_tests : (a b : Bool) → (a ≡ true → b ≡ true) → (b ≡ true → a ≡ true) → a ≡ b
same_tests true b to from = sym (to refl)
same_tests false true to from = from refl
same_tests false false to from = refl

never : (a : Bool) → ¬ (a ≡ true) → a ≡ false
never true denied = absurd (denied refl)
never false denied = refl

pub same : (line front text : List ℕ) → line ≡ front ++ 10 ∷ []
    → bytes_eq line (with_newline text) ≡ bytes_eq front text
same line front text parts = same_tests _ _
    (λ as_one. (bytes_eq-Decides front text).1
    ((same_from_push front text 10 10 (sym parts ∙ (bytes_eq-Decides line (with_newline text)).0 as_one)).0))
    (λ as_one. (bytes_eq-Decides line (with_newline text)).1
    (parts ∙ ap with_newline ((bytes_eq-Decides front text).0 as_one)))

pub other : (line front text : List ℕ) (last : ℕ) → line ≡ front ++ last ∷ [] → last ≢ 10
    → bytes_eq line (with_newline text) ≡ false
other line front text last parts differs = never _
    (λ as_one. differs ((same_from_push front text last 10
    (sym parts ∙ (bytes_eq-Decides line (with_newline text)).0 as_one)).1))

pub none : (line text : List ℕ) → length line ≡ 0 → bytes_eq line (with_newline text) ≡ false
none [] [] no_byte = refl
none [] (byte ∷ text) no_byte = refl
none (byte ∷ line) text no_byte = absurd (omega arith)
