-- A run of a whole script, from what the contracts of reading, running and writing state.
use Rattle.std.proofs.Common.{◌≡◌, ℕ, List, refl, subst, sym}
use Rattle.std.specs.Prelude.{◌≢◌, Option, Result, Ok, Err, IfErr, OnOk}
use Rattle.std.specs.Io.KnownBytes.{Consumes, IsAtEnd, Keeps}
use Rattle.kf_script.specs.declared.fault.RunFault.{RunFault}
use Rattle.kf_script.specs.declared.fault.RunFault.TheVariants.{Read, Write, Memory}
use Rattle.kf_script.specs.Lines.{lines_of}
use Rattle.kf_script.specs.Progress.{WrittenOrCut}
use Rattle.kf_workers.specs.RanWhole.{RanWhole, StoppedWhole}
use Rattle.kf_workers.specs.Replied.{RepliedInForm}

pub ran_whole : {T E : Type 0} (workers : ℕ) (input left old new : Option (List ℕ)) (script replies : List ℕ) (result : Result T E)
    → Consumes input left script → IsAtEnd left → RepliedInForm workers (lines_of script) replies → WrittenOrCut old new result replies
    → OnOk result (RanWhole workers input left old new)
ran_whole workers input left old new script replies (Err e) took ended replied written = tt
ran_whole workers input left old new script replies (Ok x) took ended replied written = record {
  script = script;
  took = took;
  ended = ended;
  replies = replies;
  replied = replied;
  written = written;
}

-- a run that stopped before anything was written
pub kept_whole : (reason : RunFault) (workers : ℕ) (input left old new : Option (List ℕ)) → reason ≢ Write → Keeps old new
    → StoppedWhole reason workers input left old new
kept_whole Read workers input left old new other kept = kept
kept_whole Write workers input left old new other kept = absurd (other refl)
kept_whole Memory workers input left old new other kept = kept

-- a run whose replies could not all be written
pub cut_whole : {T : Type 0} (workers : ℕ) (input left old new : Option (List ℕ)) (script replies : List ℕ) (result : Result T RunFault)
    → Consumes input left script → RepliedInForm workers (lines_of script) replies → WrittenOrCut old new result replies
    → IfErr result (λ fault. fault ≡ Write) → IfErr result (λ reason. StoppedWhole reason workers input left old new)
cut_whole workers input left old new script replies (Ok x) took replied written fault = tt
cut_whole workers input left old new script replies (Err reason) took replied (part, prefix, wrote) fault =
    subst (λ r. StoppedWhole r workers input left old new) (sym fault) (record {
      script = script;
      took = took;
      replies = replies;
      replied = replied;
      part = part;
      prefix = prefix;
      written = wrote;
    })
