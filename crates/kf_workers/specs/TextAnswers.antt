-- What the callbacks over the texts of a run may return.
use Rattle.std.specs.Prelude.{ℕ, List, ◌≡◌, ◌⊎◌, length, Result, IfErr, MatchResult}
use Rattle.kf_pages.specs.declared.ops.Fault.{Fault}

-- a text is shown, or the fault is 22 (the tag has no text)
abbrev pub ShowsKept : ℕ → Result (List ℕ) Fault → Type 0
ShowsKept tag filled = IfErr filled (λ fault. fault.number ≡ 22)

-- all of the bytes are taken, or the fault is 12 (memory was refused) or 22 (the tag has no text)
abbrev pub StoresWhole : ℕ → List ℕ → Result ℕ Fault → Type 0
StoresWhole tag bytes answer =
    MatchResult answer (λ count. count ≡ length bytes) (λ fault. (fault.number ≡ 12) ⊎ (fault.number ≡ 22))

-- a first text is kept, or the fault is 12 (memory was refused)
abbrev pub BeginsUnlessFull : Result (Unit {0}) Fault → Type 0
BeginsUnlessFull answer = IfErr answer (λ fault. fault.number ≡ 12)
