-- Why no file was opened under a lock that was just taken.
use Rattle.std.proofs.Common.{◌≡◌, ◌∙◌, List, length, sym, ap, subst}
use Rattle.std.specs.Prelude.{ℕ, Result, Ok, Err, IfErr}
use Rattle.kf_core.specs.declared.refusal.Refusal.{Refusal}
use Rattle.kf_tree.specs.TreeLogs.{TreeLog}
use Rattle.kf_words.specs.declared.note.Note.{Note}
use Rattle.kf_words.specs.declared.view.MasterView.{MasterView}
use Rattle.kf_words.specs.Callers.{Handle, TableId}
use Rattle.kf_words.specs.Notes.{history_of}
use Rattle.kf_shared.specs.Locked.{Locked, IsWhole, history}
use Rattle.kf_shared.specs.Noted.{BeginsWith, tree_in, tree_of}
use Rattle.kf_shared.specs.Sections.{IsTaken}
use Rattle.kf_pages.specs.declared.contents.Want.{Want}
use Rattle.kf_files.specs.Opened.{Opened}
use Rattle.kf_driver.specs.Opening.{OpenRefused, RefusedLocked}

pub refused_locked : (table : TableId) (old mid : Locked) (m' : MasterView) (by : Handle) (slots : ℕ) (path : List ℕ) (want : Want) (result : Result (Opened Handle) Refusal)
    → IsWhole table old → IsTaken (history old) → history_of by.seen ≡ history old → mid.state ≡ old.state → history mid ≡ history old
    → IfErr result (λ refusal. OpenRefused mid m' slots path want refusal) → IfErr result (λ why. RefusedLocked by slots path want why)
refused_locked table old mid m' by slots path want (Ok file) whole taken known state same why = tt
refused_locked table old mid m' by slots path want (Err refusal) whole taken known state same why =
    let told = whole.told in
    let n : ℕ = length old.state.tree in
    record {
      kept = mid;
      after = m';
      at = record {
        slots = n;
        began = subst (λ (l : List Note). BeginsWith n mid.state.root l) (sym same) (subst (λ (s : TreeLog). BeginsWith n s.root (history old)) (sym state) told.began);
        taken = subst IsTaken (sym same) taken;
        known = known ∙ sym same;
      };
      tree = ap (λ (s : TreeLog). s.tree) state ∙ told.tree ∙ ap (tree_of n old.state.root) told.began.1 ∙ sym (ap tree_in told.began.1) ∙ ap tree_in (sym same);
      refused = why;
    }
