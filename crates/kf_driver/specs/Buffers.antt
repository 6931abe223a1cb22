-- Bytes at an offset in a buffer, or in an attribute of a given size.
use Rattle.std.specs.Prelude.{◌≡◌, ◌+◌, ◌-◌, ◌++◌, ℕ, nat_lt, List, [], length, take, drop, Result, Ok, Err, MatchBool, min}
use Rattle.kf_pages.specs.declared.ops.Fault.{Fault}

-- those of the bytes that lie within this size if they are put at this offset
abbrev pub within : ℕ → ℕ → List ℕ → List ℕ
within size offset bytes = take (size - offset) bytes

-- the buffer, in which these bytes replace as many from the offset on
abbrev pub with_bytes : List ℕ → ℕ → List ℕ → List ℕ
with_bytes buffer offset bytes = take offset buffer ++ bytes ++ drop (offset + length bytes) buffer

-- the fault of a write at an offset that is not within the size
abbrev pub no_such_place : Fault
no_such_place = record { number = 6 }

-- a read at an offset within the size returns what is allowed for as much of the room as lies within the
-- size; a read at any other offset returns no bytes
abbrev pub GivesWithin : (ℕ → Result (List ℕ) Fault → Type 0) → ℕ → ℕ → ℕ → Result (List ℕ) Fault → Type 0
GivesWithin gives size offset room answer = MatchBool (nat_lt offset size)
    (gives (min room (size - offset)) answer) (answer ≡ Ok [])

-- a write at an offset within the size returns what is allowed for those of its bytes that lie within the
-- size; a write at any other offset fails, because there is no such place
abbrev pub TakesWithin : (List ℕ → Result ℕ Fault → Type 0) → ℕ → ℕ → List ℕ → Result ℕ Fault → Type 0
TakesWithin takes size offset bytes answer = MatchBool (nat_lt offset size)
    (takes (within size offset bytes) answer) (answer ≡ Err no_such_place)
