-- Lawful names.
use Rattle.std.specs.declared.cmp.Ordering.TheVariants.{Less}
use Rattle.std.specs.Ordering.{nat_cmp}
use Rattle.std.specs.Cmp.Lexicographic.{slice_cmp}
use Rattle.std.specs.Prelude.{◌≡◌, ◌≢◌, ℕ, ◌≤◌, Bool, not, ◌==◌, List, [], ◌∷◌, length, nat_le, Option, Contains}
use Rattle.std.specs.List.{list_any}
use Rattle.std.specs.Str.{bytes_eq}
use Rattle.kf_core.specs.declared.refusal.Refusal.{Refusal}
use Rattle.kf_core.specs.declared.refusal.Refusal.TheVariants.{Invalid, NameTooLong}
use Rattle.kf_core.specs.Refusals.{unless, first_cause}

-- 1 to 255 bytes, no slash, no zero byte, and neither `.` nor `..`
pub record IsLawfulName (name : List ℕ) : Type 0 where
  pub some : 1 ≤ length name
  pub few : length name ≤ 255
  pub no_slash : ¬ Contains name 47
  pub no_zero : ¬ Contains name 0
  pub no_dot : name ≢ 46 ∷ []
  pub no_dots : name ≢ 46 ∷ 46 ∷ []

-- whether the name has the byte
abbrev pub has_byte : List ℕ → ℕ → Bool
has_byte name byte = list_any (λ b. b == byte) name

-- what is wrong with a name, in the order of the tests: more than 255 bytes; else no byte, a slash, a zero
-- byte, `.` or `..`
abbrev pub name_fault : List ℕ → Option Refusal
name_fault name = first_cause (
    unless (nat_le (length name) 255) NameTooLong
    ∷ unless (nat_le 1 (length name)) Invalid
    ∷ unless (not (has_byte name 47)) Invalid
    ∷ unless (not (has_byte name 0)) Invalid
    ∷ unless (not (bytes_eq name (46 ∷ []))) Invalid
    ∷ unless (not (bytes_eq name (46 ∷ 46 ∷ []))) Invalid
    ∷ [])

-- one name comes before another in byte order
abbrev pub IsBefore : List ℕ → List ℕ → Type 0
IsBefore a b = slice_cmp nat_cmp a b ≡ Less
