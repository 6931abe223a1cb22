-- The text of parts, and the page after an emit.
use Rattle.std.specs.Prelude.{ℕ, ◌-◌, List, [], ◌∷◌, ◌++◌, length, take, decimal, flat_map, false, replicate, if◌then◌else◌}
use Rattle.std.specs.Fmt.{digits, signed_decimal}
use Rattle.kf_text.specs.declared.part.Part.{Part}
use Rattle.kf_text.specs.declared.part.Part.TheVariants.{Text, Number, PaddedNumber, Signed, Hex, PaddedHex, Flag, Newline}

-- a number in base 16, in lower case
abbrev pub hex : ℕ → List ℕ
hex number = digits 16 false number

-- digits with zeros in front, to at least this width (48 is `0`)
abbrev pub to_width : ℕ → List ℕ → List ℕ
to_width width digits = replicate (width - length digits) 48 ++ digits

-- the bytes of a part: 48 is `0`, 49 is `1`, 10 ends a line
abbrev pub part_text : Part → List ℕ
part_text (Text bytes) = bytes.now
part_text (Number number) = decimal number
part_text (PaddedNumber number width) = to_width width (decimal number)
part_text (Signed number) = signed_decimal number
part_text (Hex number) = hex number
part_text (PaddedHex number width) = to_width width (hex number)
part_text (Flag flag) = if flag then 49 ∷ [] else 48 ∷ []
part_text Newline = 10 ∷ []

-- the parts' bytes, one after another
abbrev pub text_of : List Part → List ℕ
text_of parts = flat_map part_text parts

-- a page with a text after what the page has, as much of the text as fits into 4,095 bytes
abbrev pub emitted : List ℕ → List ℕ → List ℕ
emitted page text = page ++ take (4095 - length page) text
