-- What a run of a whole script with workers did.
use Rattle.std.specs.Prelude.{ℕ, List, Option}
use Rattle.std.specs.Io.KnownBytes.{Appends, Consumes, IsAtEnd, Keeps}
use Rattle.kf_script.specs.declared.fault.RunFault.{RunFault}
use Rattle.kf_script.specs.declared.fault.RunFault.TheVariants.{Read, Write, Memory}
use Rattle.kf_script.specs.Progress.{IsPrefix}
use Rattle.kf_script.specs.Lines.{lines_of}
use Rattle.kf_workers.specs.Replied.{RepliedInForm}

-- the script was read to its end, and the replies to its lines were written, one for each line, in the order
-- of the lines
pub record RanWhole (workers : ℕ) (input left old new : Option (List ℕ)) : Type 0 where
  pub script : List ℕ
  pub took : Consumes input left script
  pub ended : IsAtEnd left
  pub replies : List ℕ
  pub replied : RepliedInForm workers (lines_of script) replies
  pub written : Appends old new replies

-- the script was read and its lines got their replies, and then a write failed. What was written is a prefix
-- of the replies
pub record CutWhole (workers : ℕ) (input left old new : Option (List ℕ)) : Type 0 where
  pub script : List ℕ
  pub took : Consumes input left script
  pub replies : List ℕ
  pub replied : RepliedInForm workers (lines_of script) replies
  pub part : List ℕ
  pub prefix : IsPrefix part replies
  pub written : Appends old new part

-- the run stopped for this reason. After a failed write it is as `CutWhole` says. Otherwise nothing was
-- written
abbrev pub StoppedWhole : RunFault → ℕ → Option (List ℕ) → Option (List ℕ) → Option (List ℕ) → Option (List ℕ)
    → Type 0
StoppedWhole Read workers input left old new = Keeps old new
StoppedWhole Write workers input left old new = CutWhole workers input left old new
StoppedWhole Memory workers input left old new = Keeps old new
