-- A name of at most 24 bytes as four numbers: how many bytes it has, and three words with up to eight bytes
-- each.
use Rattle.std.specs.Prelude.{ℕ, ◌-◌, ◌/◌, ◌%◌, zero, suc, List, [], ◌∷◌, min}

-- the lowest n bytes of a number, the highest of them first, in front of other bytes
abbrev pub bytes_before : ℕ → ℕ → List ℕ → List ℕ
bytes_before zero word later = later
bytes_before (suc count) word later = bytes_before count (word / 256) (word % 256 ∷ later)

-- the bytes of a name
abbrev pub bytes_of : ℕ → ℕ → ℕ → ℕ → List ℕ
bytes_of count first second third = bytes_before (min count 8) first
    (bytes_before (min count 16 - min count 8) second (bytes_before (count - min count 16) third []))
