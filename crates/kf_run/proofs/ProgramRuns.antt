-- What the program did, from what the contract of its script's run states.
use Rattle.std.proofs.Common.{◌≡◌, ℕ, List, [], Option, Result, Ok, Err, OnOk, IsErrOf, refl, sym, subst, append-nil}
use Rattle.std.specs.Prelude.{IfErr}
use Rattle.std.specs.Io.KnownBytes.{Appends, Consumes, IsAtEnd, Keeps}
use Rattle.kf_script.specs.declared.fault.RunFault.{RunFault}
use Rattle.kf_script.specs.declared.fault.RunFault.TheVariants.{Read, Write, Memory}
use Rattle.kf_script.specs.Lines.{lines_of, ended_lines_of}
use Rattle.kf_plain.specs.Plain.{Plain, new_board}
use Rattle.kf_plain.specs.PlainStep.{PlainStep}
use Rattle.kf_script.specs.Progress.{Answered, CutShort, IsPrefix, WrittenOrCut}
use Rattle.kf_run.specs.Programs.{Ran, StoppedFor}

-- a script that got its replies on a new board
pub ran_on : {T E : Type 0} (slots : ℕ) (first last : Plain) (input left old new : Option (List ℕ)) (result : Result T E) → first ≡ new_board slots 65535 0
    → OnOk result ((read : List ℕ) × Consumes input left read × IsAtEnd left × Answered PlainStep first last (lines_of read) old new) → OnOk result (Ran slots input left old new)
ran_on slots first last input left old new (Err e) is_new answered = tt
ran_on slots first last input left old new (Ok x) is_new (read, took, ended, answered) = record {
  last = last;
  read = read;
  took = took;
  ended = ended;
  answered = subst (λ b. Answered PlainStep b last (lines_of read) old new) is_new answered;
}

-- a script whose run on a new board stopped
pub stopped_on : {T : Type 0} (slots : ℕ) (first last : Plain) (input left old new : Option (List ℕ)) (result : Result T RunFault) → first ≡ new_board slots 65535 0
    → (IsErrOf result Read → (read : List ℕ) × Consumes input left read × Answered PlainStep first last (ended_lines_of read) old new)
    → (IsErrOf result Write → (read : List ℕ) × Consumes input left read × CutShort PlainStep first last (lines_of read) old new)
    → (IsErrOf result Memory → (last ≡ first) × Keeps input left × Keeps old new)
    → IfErr result (λ reason. StoppedFor reason slots input left old new)
stopped_on slots first last input left old new (Ok x) is_new read write memory = tt
stopped_on slots first last input left old new (Err Read) is_new read write memory =
    let (bytes, took, answered) = read refl in
    (last, bytes, took, subst (λ b. Answered PlainStep b last (ended_lines_of bytes) old new) is_new answered)
stopped_on slots first last input left old new (Err Write) is_new read write memory =
    let (bytes, took, cut) = write refl in
    (last, bytes, took, subst (λ b. CutShort PlainStep b last (lines_of bytes) old new) is_new cut)
stopped_on slots first last input left old new (Err Memory) is_new read write memory =
    let (same, kept, written) = memory refl in
    (kept, written)

-- what was written of a line, whether it was written whole or not
pub part_of : {T E : Type 0} (old new : Option (List ℕ)) (result : Result T E) (line : List ℕ) → WrittenOrCut old new result line → (part : List ℕ) × IsPrefix part line × Appends old new part
part_of old new (Ok x) line wrote = (line, ([], sym (append-nil line)), wrote)
part_of old new (Err e) line wrote = wrote
