-- Which modes an attribute may have.
use Rattle.std.specs.Prelude.{◌≡◌, ℕ, bit_and}

-- the mode has no bit except those that let somebody read or write; these are 666 in octal
abbrev pub IsMode : ℕ → Type 0
IsMode mode = bit_and mode 438 ≡ mode
