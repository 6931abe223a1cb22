-- What the program did with its script, and what it printed.
use Rattle.std.specs.Prelude.{◌≡◌, ◌<◌, ℕ, List, [], ◌∷◌, ◌++◌, codes, Option}
use Rattle.std.specs.Io.KnownBytes.{Appends, Consumes, IsAtEnd, Keeps}
use Rattle.kf_script.specs.declared.fault.RunFault.{RunFault}
use Rattle.kf_script.specs.declared.fault.RunFault.TheVariants.{Read, Write, Memory}
use Rattle.kf_script.specs.Lines.{lines_of, ended_lines_of}
use Rattle.kf_script.specs.Progress.{Answered, CutShort, IsPrefix}
use Rattle.kf_plain.specs.Plain.{Plain, new_board}
use Rattle.kf_plain.specs.PlainStep.{PlainStep}
use Rattle.kf_workers.specs.RanWhole.{RanWhole, StoppedWhole}

-- the script was read to its end, and was run on a new back end with this number of slots
pub record Ran (slots : ℕ) (input left old new : Option (List ℕ)) : Type 0 where
  pub last : Plain
  pub read : List ℕ
  pub took : Consumes input left read
  pub ended : IsAtEnd left
  pub answered : Answered PlainStep (new_board slots 65535 0) last (lines_of read) old new

-- the run on a new back end with this number of slots stopped for this reason. If a read failed, the lines
-- that had ended have their replies. If a write failed, what was written is a prefix of the replies. If there
-- was no memory, nothing was read or written
abbrev pub StoppedFor : RunFault → ℕ → Option (List ℕ) → Option (List ℕ) → Option (List ℕ) → Option (List ℕ)
    → Type 0
StoppedFor Read slots input left old new = (last : Plain) × (read : List ℕ) × Consumes input left read
    × Answered PlainStep (new_board slots 65535 0) last (ended_lines_of read) old new
StoppedFor Write slots input left old new = (last : Plain) × (read : List ℕ) × Consumes input left read
    × CutShort PlainStep (new_board slots 65535 0) last (lines_of read) old new
StoppedFor Memory slots input left old new = Keeps input left × Keeps old new

-- the line that names a fault
abbrev pub fault_line : RunFault → List ℕ
fault_line Read = codes "kernfs_run: read" ++ 10 ∷ []
fault_line Write = codes "kernfs_run: write" ++ 10 ∷ []
fault_line Memory = codes "kernfs_run: memory" ++ 10 ∷ []

-- the line that names this fault was printed, as far as it could be written, and nothing else
abbrev pub Named : RunFault → Option (List ℕ) → Option (List ℕ) → Type 0
Named reason old new = (part : List ℕ) × IsPrefix part (fault_line reason) × Appends old new part

-- the script was run by one caller if there are no workers, and else by its owner and this number of workers
pub record RanBy (workers slots : ℕ) (input left old new : Option (List ℕ)) : Type 0 where
  pub alone : workers ≡ 0 → Ran slots input left old new
  pub by_many : 0 < workers → RanWhole workers input left old new

-- the run of the script stopped for this reason: a run by one caller if there are no workers, else by its
-- owner and this number of workers
pub record StoppedBy (reason : RunFault) (workers slots : ℕ)
    (input left old new : Option (List ℕ)) : Type 0 where
  pub alone : workers ≡ 0 → StoppedFor reason slots input left old new
  pub by_many : 0 < workers → StoppedWhole reason workers input left old new
