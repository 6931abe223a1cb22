-- Reads of a binary attribute, with less stated of their visit, and only the result of their callback.
use Rattle.std.proofs.Common.{◌≡◌, ℕ, List, [], ◌∷◌, Result}
use Rattle.kf_core.specs.Calls.{Visit, unvisited, tried}
use Rattle.kf_pages.specs.declared.ops.Fault.{Fault}
use Rattle.kf_pages.specs.declared.ops.FileError.{FileError}
use Rattle.kf_pages.specs.Files.{FileState}
use Rattle.kf_pages.specs.Binary.{ReadAt, ReadsAt, NumberedRead}
use Rattle.kf_files.specs.Waiting.{MayReadAt}

-- if the callbacks stay as they are, only their result is stated
pub may_read : {Lent : Type 0} (reads_at : ℕ → ℕ → ℕ → Result (List ℕ) Fault → Type 0) (lent lent' : Lent) (tag offset : ℕ) (out out' : List ℕ) (answer : Result ℕ Fault)
    → ReadAt (λ l t o r a l'. reads_at t o r a × (l' ≡ l)) lent tag offset out out' lent' answer → MayReadAt reads_at tag offset out out' answer
may_read reads_at lent lent' tag offset [] out' answer h = h.0
may_read reads_at lent lent' tag offset (byte ∷ out) out' answer h = h.0

-- less may be stated of a read's visit
pub reads_at_told : {V V' : Visit NumberedRead → Type 0} {state state' : FileState} {told : Result ℕ FileError} → ((v : Visit NumberedRead) → V v → V' v) → ReadsAt V state told state' → ReadsAt V' state told state'
reads_at_told f r = record {
  denied = λ no. let d = r.denied no in (f unvisited d.0, d.1, d.2);
  read = λ yes. let s = r.read yes in (s.0, f (tried s.0) s.1, s.2, s.3);
}
