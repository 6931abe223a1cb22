-- What the bytes of a store say.
use Rattle.std.specs.Prelude.{◌≡◌, ◌⊎◌, ℕ, ℤ, Bool, true, false, ◌-◌, ◌<◌, ◌≤◌, ◌≤ℤ◌, ◌<ℤ◌, ◌==◌, ◌&&◌, ◌||◌, pos, neg_ℤ, List, [], ◌∷◌, ◌++◌, length, take, drop, slice_index, codes, Option, Some, None, Result, Ok, Err, if◌then◌else◌}
use Rattle.std.specs.Str.Parse.{IsNumeral, digits_value, starts_with_minus, without_leading_plus, without_leading_sign}
use Rattle.std.specs.List.{list_any, position_or_len}
use Rattle.std.specs.Str.{bytes_eq}
use Rattle.kf_text.specs.declared.base.Base.{Base}
use Rattle.kf_text.specs.declared.base.Base.TheVariants.{Decimal, Hex, ByPrefix}
use Rattle.kf_text.specs.declared.not_read.NotRead.{NotRead}
use Rattle.kf_text.specs.declared.not_read.NotRead.TheVariants.{Invalid, Range}

-- the kernel's error number for a refusal
abbrev pub number_of : NotRead → ℕ
number_of Invalid = 22
number_of Range = 34

-- the bytes before the first zero byte, or all of them
abbrev pub until_zero : List ℕ → List ℕ
until_zero bytes = take (position_or_len (λ byte. byte == 0) bytes) bytes

-- bytes without the newline that ends them, if there is one
abbrev pub without_newline : List ℕ → List ℕ
without_newline bytes =
    if slice_index bytes (length bytes - 1) == 10 then take (length bytes - 1) bytes else bytes

-- the bytes before the first zero byte, without the newline that ends them, if there is one
abbrev pub line : List ℕ → List ℕ
line bytes = without_newline (until_zero bytes)

-- the byte is one of these
abbrev pub is_one_of : List ℕ → ℕ → Bool
is_one_of bytes byte = list_any (λ b. b == byte) bytes

-- a text begins with `0x` or `0X`
abbrev pub begins_with_0x : List ℕ → Bool
begins_with_0x text = slice_index text 0 == 48 && is_one_of (codes "xX") (slice_index text 1)

-- the base of a text: the one that is named, or else the one that its first bytes show (48 is `0`)
abbrev pub radix_of : Base → List ℕ → ℕ
radix_of Decimal text = 10
radix_of Hex text = 16
radix_of ByPrefix text =
    if begins_with_0x text then 16 else (if slice_index text 0 == 48 then 8 else 10)

-- the digits of a text: all of it, without its leading `0x` or `0X` unless the named base is decimal
abbrev pub digits_of : Base → List ℕ → List ℕ
digits_of Decimal text = text
digits_of Hex text = if begins_with_0x text then drop 2 text else text
digits_of ByPrefix text = if begins_with_0x text then drop 2 text else text

-- a text is a number: one digit or more in its base
abbrev pub IsNumber : Base → List ℕ → Type 0
IsNumber base text = IsNumeral (radix_of base text) (digits_of base text)

-- the number that a text is, if it is one
abbrev pub number_in : Base → List ℕ → ℕ
number_in base text = digits_value (radix_of base text) (digits_of base text)

-- what a read of a text as a number of at most `most` returns: this number, `Invalid` if the text is no
-- number, or `Range` if the number is greater
abbrev pub ReadNumber : Base → ℕ → List ℕ → Result ℕ NotRead → Type 0
ReadNumber base most text (Ok number) =
    IsNumber base text × (number ≡ number_in base text) × (number ≤ most)
ReadNumber base most text (Err Invalid) = ¬ (IsNumber base text)
ReadNumber base most text (Err Range) = IsNumber base text × (most < number_in base text)

-- the same for a text that may have a plus in front
abbrev pub ReadUnsignedIn : Base → ℕ → List ℕ → Result ℕ NotRead → Type 0
ReadUnsignedIn base most text = ReadNumber base most (without_leading_plus text)

-- the same in base 10
abbrev pub ReadUnsigned : ℕ → List ℕ → Result ℕ NotRead → Type 0
ReadUnsigned = ReadUnsignedIn Decimal

-- a number, or its negative if there is a minus in front
abbrev pub with_sign : Bool → ℕ → ℤ
with_sign is_negative number = if is_negative then neg_ℤ (pos number) else pos number

-- the number that a text is, which may have a minus or a plus in front
abbrev pub signed_number_in : Base → List ℕ → ℤ
signed_number_in base text = with_sign (starts_with_minus text) (number_in base (without_leading_sign text))

-- what a read of a text as a number from `least` to `most` returns: this number, `Invalid` if the text is no
-- number, or `Range` if the number is outside. The text may have a plus or a minus in front
abbrev pub ReadSignedIn : Base → ℤ → ℤ → List ℕ → Result ℤ NotRead → Type 0
ReadSignedIn base least most text (Ok number) = IsNumber base (without_leading_sign text)
    × (number ≡ signed_number_in base text) × (least ≤ℤ number) × (number ≤ℤ most)
ReadSignedIn base least most text (Err Invalid) = ¬ (IsNumber base (without_leading_sign text))
ReadSignedIn base least most text (Err Range) = IsNumber base (without_leading_sign text)
    × ((signed_number_in base text <ℤ least) ⊎ (most <ℤ signed_number_in base text))

-- the same in base 10
abbrev pub ReadSigned : ℤ → ℤ → List ℕ → Result ℤ NotRead → Type 0
ReadSigned = ReadSignedIn Decimal

-- the flag of a text that begins with an `o`, by the byte after it: `on` or `off`
abbrev pub on_or_off : List ℕ → Option Bool
on_or_off [] = None
on_or_off (byte ∷ rest) = if is_one_of (codes "nN") byte then Some true
    else (if is_one_of (codes "fF") byte then Some false else None)

-- a flag, by the first byte, or the first two
abbrev pub flag : List ℕ → Option Bool
flag [] = None
flag (byte ∷ rest) = if is_one_of (codes "eEyYtT1") byte then Some true
    else (if is_one_of (codes "dDnNfF0") byte then Some false
    else (if is_one_of (codes "oO") byte then on_or_off rest else None))

-- a text with a newline after it
abbrev pub with_newline : List ℕ → List ℕ
with_newline text = text ++ 10 ∷ []

-- two texts are the same, except for a newline that ends one of them
abbrev pub same_line : List ℕ → List ℕ → Bool
same_line one other =
    bytes_eq one other || bytes_eq one (with_newline other) || bytes_eq other (with_newline one)

-- the same for the bytes before the first zero byte of each text
abbrev pub same_text : List ℕ → List ℕ → Bool
same_text one other = same_line (until_zero one) (until_zero other)
