-- What contracts see of an open file that has its post.
use Rattle.std.specs.Prelude.{ℕ, Option, Some, None, Result, Ok, Err}
use Rattle.kf_core.specs.declared.refusal.Refusal.{Refusal}
use Rattle.kf_notify.specs.PostStates.{PostState}
use Rattle.kf_pages.specs.Files.{FileState}

-- an open file: the hold that it was opened with, its post, its node's tag, and what it keeps
pub record Opened (Hold : Type 0) : Type 0 where
  pub hold : Hold
  pub post : PostState
  pub tag : ℕ
  pub state : FileState

-- why an open was refused, if it was
abbrev pub refusal_of : {Hold : Type 0} → Result (Opened Hold) (Hold × PostState × Refusal) → Option Refusal
refusal_of (Ok file) = None
refusal_of (Err back) = Some back.2

-- the hold after an open: in the file, or returned after a refusal
abbrev pub hold_after : {Hold : Type 0} → Result (Opened Hold) (Hold × PostState × Refusal) → Hold
hold_after (Ok file) = file.hold
hold_after (Err back) = back.0

-- why an open with a page that the caller lends was refused, if it was
abbrev pub paged_refusal : {Hold Page : Type 0}
    → Result (Opened Hold) (Hold × PostState × Page × Refusal) → Option Refusal
paged_refusal (Ok file) = None
paged_refusal (Err back) = Some back.3

-- the hold after an open with a page that the caller lends: in the file, or returned after a refusal
abbrev pub paged_after : {Hold Page : Type 0}
    → Result (Opened Hold) (Hold × PostState × Page × Refusal) → Hold
paged_after (Ok file) = file.hold
paged_after (Err back) = back.0
