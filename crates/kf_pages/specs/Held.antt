-- What contracts see of a file that was opened with a hold.
use Rattle.std.specs.Prelude.{ℕ, Bool, true, false, List, Option, Some, None, IsSome, Result, Ok, Err}
use Rattle.std.proofs.lemmas.Bool.{false≢true}
use Rattle.kf_core.specs.declared.refusal.Refusal.{Refusal}
use Rattle.kf_pages.specs.Files.{FileState}

-- an open file without its source of event numbers: the hold that it was opened with, its node's tag, and
-- what it keeps
pub record Held (Hold : Type 0) : Type 0 where
  pub hold : Hold
  pub tag : ℕ
  pub state : FileState

-- the hold that is in this place
abbrev pub hold_in : {Hold : Type 0} (place : Option Hold) → IsSome place → Hold
hold_in (Some hold) there = hold
hold_in None there = absurd (false≢true there)

-- the page's bytes, if they are a text
abbrev pub text_in : Bool → List ℕ → Option (List ℕ)
text_in true bytes = Some bytes
text_in false bytes = None

-- why an open was refused. None: it was not
abbrev pub held_refusal : {Hold Page : Type 0} → Result (Held Hold) (Hold × Page × Refusal) → Option Refusal
held_refusal (Ok file) = None
held_refusal (Err back) = Some back.2

-- the hold after an open: it is in the file, or was returned
abbrev pub held_after : {Hold Page : Type 0} → Result (Held Hold) (Hold × Page × Refusal) → Hold
held_after (Ok file) = file.hold
held_after (Err back) = back.0

-- the hold after the try of an open, which returns it either way
abbrev pub tried_hold : {Hold : Type 0} → Result (Hold × ℕ) (Hold × Refusal) → Hold
tried_hold (Ok found) = found.0
tried_hold (Err back) = back.0

-- why the try of an open was refused. None: it was not
abbrev pub tried_refusal : {Hold : Type 0} → Result (Hold × ℕ) (Hold × Refusal) → Option Refusal
tried_refusal (Ok found) = None
tried_refusal (Err back) = Some back.1
