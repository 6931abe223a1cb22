-- A read of a file does not change the slot of its post.
use Rattle.std.proofs.Common.{◌≡◌, ℕ, Bool, true, false, List, Option, None, Some, Result, refl, ap, inl}
use Rattle.kf_core.specs.Calls.{tried}
use Rattle.kf_words.specs.Callers.{Handle}
use Rattle.kf_notify.specs.PostStates.{PostState, Took}
use Rattle.kf_pages.specs.declared.ops.FileError.{FileError}
use Rattle.kf_pages.specs.Files.{Reads, FileState, ShowResult}
use Rattle.kf_files.specs.Waiting.{WaitVisits}

took_slot : (hold hold' : Handle) (old new : PostState) (does : ShowResult → Type 0) (came : Option ShowResult)
    → WaitVisits (new ≡ old) (λ shown. Took old shown.number new × does shown) hold hold' (tried came)
    → new.slot ≡ old.slot
took_slot hold hold' old new does None visit = ap (λ p. p.slot) visit.1
took_slot hold hold' old new does (Some shown) visit = visit.did.0.same.slot

slot_by_want : (hold hold' : Handle) (old new : PostState) (does : ShowResult → Type 0)
    (answers : Result (List ℕ) FileError → Type 0) (state : FileState) (count : ℕ) (state' : FileState)
    (is_read : Bool)
    → Reads (WaitVisits (new ≡ old) (λ shown. Took old shown.number new × does shown) hold hold') answers
    state 0 count state' → state.want.read ≡ is_read → new.slot ≡ old.slot
slot_by_want hold hold' old new does answers state count state' false reads denied =
    ap (λ p. p.slot) (reads.denied denied).0.2
slot_by_want hold hold' old new does answers state count state' true reads allowed =
    let (came, visit, _, _) = reads.shown allowed (inl refl) in took_slot hold hold' old new does came visit

pub read_slot : (hold hold' : Handle) (old new : PostState) (does : ShowResult → Type 0)
    (answers : Result (List ℕ) FileError → Type 0) (state : FileState) (count : ℕ) (state' : FileState)
    → Reads (WaitVisits (new ≡ old) (λ shown. Took old shown.number new × does shown) hold hold') answers
    state 0 count state' → new.slot ≡ old.slot
read_slot hold hold' old new does answers state count state' reads =
    slot_by_want hold hold' old new does answers state count state' state.want.read reads refl
