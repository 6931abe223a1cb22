-- What the ready-made attributes show and take.
use Rattle.std.specs.Prelude.{◌≡◌, ℕ, ℤ, List, [], ◌∷◌, Result, Ok, Err, ok_or}
use Rattle.kf_pages.specs.declared.ops.Fault.{Fault}
use Rattle.kf_text.specs.Readings.{ReadSigned, ReadUnsigned, flag, line, number_of}
use Rattle.kf_text.specs.Texts.{emitted, text_of}
use Rattle.kf_text.specs.declared.not_read.NotRead.{NotRead}
use Rattle.kf_text.specs.declared.not_read.NotRead.TheVariants.{Invalid}
use Rattle.kf_text.specs.declared.part.Part.{Part}
use Rattle.kf_text.specs.declared.part.Part.TheVariants.{Newline}

-- what is on an empty page once this part and a newline were emitted
abbrev pub shown_line : Part → List ℕ
shown_line part = emitted [] (text_of (part ∷ Newline ∷ []))

-- the show did not fail, and filled the page with the line of some value
abbrev pub ShowsLine : {A : Type 0} → (A → Part) → Result (List ℕ) Fault → Type 0
ShowsLine part filled = (value : _) × (filled ≡ Ok (shown_line (part value)))

-- what a store returns after this reading: it takes what was read, or fails with the fault of the reading
abbrev pub answer_of : {A : Type 0} → Result A NotRead → Result (Unit {0}) Fault
answer_of (Ok value) = Ok tt
answer_of (Err why) = Err (record { number = number_of why })

-- a store takes a number of at most this, and nothing else
abbrev pub TakesNumber : ℕ → List ℕ → Result (Unit {0}) Fault → Type 0
TakesNumber most bytes answer = (read : Result ℕ NotRead) × ReadUnsigned most (line bytes) read
    × (answer ≡ answer_of read)

-- a store takes a number from the first of these two to the second, and nothing else
abbrev pub TakesSigned : ℤ → ℤ → List ℕ → Result (Unit {0}) Fault → Type 0
TakesSigned least most bytes answer = (read : Result ℤ NotRead) × ReadSigned least most (line bytes) read
    × (answer ≡ answer_of read)

-- a store takes a flag, and nothing else
abbrev pub TakesFlag : List ℕ → Result (Unit {0}) Fault → Type 0
TakesFlag bytes answer = answer ≡ answer_of (ok_or (flag bytes) Invalid)
