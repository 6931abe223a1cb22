-- The texts of files, by slot, and their callbacks.
use Rattle.std.specs.Prelude.{◌≡◌, ◌⊎◌, ℕ, List, [], length, take, slice_set, slice_index_or, Result, Ok, Err}
use Rattle.kf_pages.specs.declared.ops.Fault.{Fault}

-- a show fills the page with the first 4,096 bytes of the slot's text
abbrev pub ShowsOf : List (List ℕ) → ℕ → Result (List ℕ) Fault → List (List ℕ) → Type 0
ShowsOf texts slot filled texts' = (filled ≡ Ok (take 4096 (slice_index_or texts slot []))) × (texts' ≡ texts)

-- a store replaces the slot's whole text with the bytes, and returns their number; or it returns the fault
-- for lack of memory, and the texts stay as they were
abbrev pub StoresIn : List (List ℕ) → ℕ → List ℕ → Result ℕ Fault → List (List ℕ) → Type 0
StoresIn texts slot bytes answer texts' =
    ((answer ≡ Ok (length bytes)) × (texts' ≡ slice_set texts slot bytes))
    ⊎ ((answer ≡ Err (record { number = 12 })) × (texts' ≡ texts))
