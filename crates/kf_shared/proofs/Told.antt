-- After each command and its note, what the lock guards is tied, and is that of the whole history.
use Rattle.std.proofs.lemmas.List.{length-append}
use Rattle.std.proofs.Common.{◌≡◌, ◌≢◌, ℕ, ◌+◌, arith, List, [], ◌∷◌, ◌++◌, length, refl, sym, ap, ◌∙◌, subst, slice_set, true, false, Bool}
use Rattle.std.specs.Prelude.{Option}
use Rattle.kf_core.specs.declared.key.Key.{Key}
use Rattle.kf_core.specs.declared.command.Command.{Command}
use Rattle.kf_core.specs.declared.refusal.Refusal.{Refusal}
use Rattle.kf_core.proofs.Lists.{length_set}
use Rattle.kf_tree.specs.TreeLogs.{TreeLog, IsAccepted, IsCompacted}
use Rattle.kf_tree.specs.SlotMarks.{SameMarks}
use Rattle.kf_words.specs.declared.note.Note.{Note}
use Rattle.kf_words.specs.declared.note.Note.TheVariants.{Did, Claimed, Compacted, LockTaken, LockReleased}
use Rattle.kf_live.specs.Told.{LiveLog, WereTold}
use Rattle.kf_words.specs.declared.view.MasterView.{MasterView}
use Rattle.kf_words.specs.Callers.{TableId}
use Rattle.kf_words.specs.Nodes.{MasterState, KeepsNodes}
use Rattle.kf_words.specs.Notes.{history_of}
use Rattle.kf_shared.specs.Agreement.{HasNodes}
use Rattle.kf_shared.specs.Noted.{IsNoted, KeepsWords, WasNoted, last_stored}
use Rattle.kf_shared.specs.Links.{AreOfRun}
use Rattle.kf_shared.specs.Locked.{IsTied}
use Rattle.kf_shared.proofs.Notes.{IsBare, bare_released, bare_taken, noted_bare, noted_did, noted_claimed, noted_compacted, noted_same, last_stored_more}
use Rattle.kf_shared.proofs.OfRun.{run_longer, run_told}
use Rattle.kf_shared.proofs.Ties.{tied_master, tied_same}

-- tree, claims and stored commands are those of the history, and the links for look-ups are of the run
abbrev pub AreTold : LiveLog → List ℕ → List Note → Type 0
AreTold s claims notes = IsNoted s.log claims notes × AreOfRun s.log.root s.links notes

-- what is true of the value that the lock guards
abbrev pub Held : TableId → LiveLog → MasterState → List ℕ → Type 0
Held table s m claims = IsTied table s.log m claims × AreTold s claims (history_of m.seen)

pub keeps_all : (m : MasterState) → KeepsNodes m m
keeps_all m = record { table = refl; limit = refl; nodes = refl; slots = refl; history = refl }

-- a note changes nothing else that the Master has
pub tied_words : (table : TableId) (s : TreeLog) (m m' : MasterState) (claims : List ℕ) → IsTied table s m claims → KeepsWords m m' → IsTied table s m' claims
tied_words table s m m' claims t w = record {
  same_table = w.table ∙ t.same_table;
  root = t.root;
  marks = subst (λ (v : MasterView). SameMarks v.slots s.tree) (sym w.view) t.marks;
  nodes = subst (λ nodes. HasNodes nodes s.tree) (sym w.nodes) t.nodes;
  slots = ap (λ (v : MasterView). length v.slots) w.view ∙ t.slots;
  all_nodes = ap length w.nodes ∙ t.all_nodes;
  claims = t.claims;
}

pub held_master : (table : TableId) (s : LiveLog) (m m' : MasterState) (claims : List ℕ) → Held table s m claims → KeepsNodes m m' → Held table s m' claims
held_master table s m m' claims h n = (tied_master table s.log m m' claims h.0 n, subst (AreTold s claims) (sym n.history) h.1)

pub held_state : (table : TableId) (s s' : LiveLog) (m : MasterState) (claims : List ℕ) → Held table s m claims → s' ≡ s → Held table s' m claims
held_state table s s' m claims h e = subst (λ x. Held table x m claims) (sym e) h

-- the tree is the same, and links were made from it
pub held_told : (table : TableId) (s s' : LiveLog) (m : MasterState) (claims : List ℕ) → Held table s m claims → s'.log ≡ s.log → WereTold s.links s'.links s'.log → Held table s' m claims
held_told table s s' m claims h same told =
    let noted : IsNoted s'.log claims (history_of m.seen) = subst (λ l. IsNoted l claims (history_of m.seen)) (sym same) h.1.0 in (
      subst (λ l. IsTied table l m claims) (sym same) h.0,
      (noted, run_told s'.log claims (history_of m.seen) noted s.links s'.links told (subst (λ (l : TreeLog). AreOfRun l.root s.links (history_of m.seen)) (sym same) h.1.1)),
    )

-- if root and links are the same, the links are still of the run
run_same : (s s' : LiveLog) (notes : List Note) → s'.log.root ≡ s.log.root → s'.links ≡ s.links → AreOfRun s.log.root s.links notes → AreOfRun s'.log.root s'.links notes
run_same s s' notes root links a = subst (λ k. AreOfRun k s'.links notes) (sym root) (subst (λ l. AreOfRun s.log.root l notes) (sym links) a)

pub held_same : (table : TableId) (s s' : LiveLog) (m : MasterState) (claims : List ℕ) → Held table s m claims → s'.log.root ≡ s.log.root → s'.log.tree ≡ s.log.tree → s'.log.commands ≡ s.log.commands → s'.links ≡ s.links
    → Held table s' m claims
held_same table s s' m claims h root tree commands links = (
  tied_same table s.log s'.log m claims h.0 root tree,
  (noted_same s.log s'.log claims (history_of m.seen) h.1.0 root tree commands, run_same s s' (history_of m.seen) root links h.1.1),
)

-- after one more note, the links are still of the run
run_noted : (s : LiveLog) (m m' : MasterState) (note : Note) → WasNoted note m m' → AreOfRun s.log.root s.links (history_of m.seen) → AreOfRun s.log.root s.links (history_of m'.seen)
run_noted s m m' note w = run_longer s.log.root s.links (history_of m.seen) (history_of m'.seen) (note ∷ [], sym w.history)

-- a claim was written and noted
pub held_claimed : (table : TableId) (s : LiveLog) (m m' : MasterState) (claims claims' : List ℕ) (key : Key) → Held table s m claims → claims' ≡ slice_set claims key.slot key.generation → WasNoted (Claimed key) m m' → Held table s m' claims'
held_claimed table s m m' claims claims' key h put w =
    let t = tied_words table s.log m m' claims h.0 w.words in
    let put_in : IsTied table s.log m' (slice_set claims key.slot key.generation) = record {
      same_table = t.same_table;
      root = t.root;
      marks = t.marks;
      nodes = t.nodes;
      slots = t.slots;
      all_nodes = t.all_nodes;
      claims = length_set claims key.slot key.generation ∙ t.claims;
    } in
    let noted : IsNoted s.log (slice_set claims key.slot key.generation) (history_of m'.seen) = subst (IsNoted s.log (slice_set claims key.slot key.generation)) (sym w.history) (noted_claimed s.log claims (history_of m.seen) key h.1.0) in
    subst (Held table s m') (sym put) (put_in, (noted, run_noted s m m' (Claimed key) w h.1.1))

-- the commands were replaced by the canonical list, and that was noted
pub held_compacted : (table : TableId) (s s' : LiveLog) (m m' : MasterState) (claims : List ℕ) → Held table s m claims → IsCompacted s.log s'.log → s'.links ≡ s.links → WasNoted Compacted m m' → Held table s' m' claims
held_compacted table s s' m m' claims h a links w = (
  tied_words table s'.log m m' claims (tied_same table s.log s'.log m claims h.0 a.same_root a.same_tree) w.words,
  (
    subst (IsNoted s'.log claims) (sym w.history) (noted_compacted s.log s'.log claims (history_of m.seen) h.1.0 a),
    run_same s s' (history_of m'.seen) a.same_root links (run_noted s m m' Compacted w h.1.1),
  ),
)

-- a note that is not of a command, a claim or a compaction
module _ (table : TableId) (s : LiveLog) (m m' : MasterState) (claims : List ℕ) (h : Held table s m claims) where
  held_bare : (note : Note) → IsBare note → WasNoted note m m' → Held table s m' claims
  held_bare note bare w =
      (tied_words table s.log m m' claims h.0 w.words, (subst (IsNoted s.log claims) (sym w.history) (noted_bare note bare s.log claims (history_of m.seen) h.1.0), run_noted s m m' note w h.1.1))

  -- the lock was taken, and that was noted
  pub held_taken : WasNoted LockTaken m m' → Held table s m' claims
  held_taken w = held_bare LockTaken bare_taken w

  -- the lock is about to be released, and that was noted
  pub held_released : WasNoted LockReleased m m' → Held table s m' claims
  held_released w = held_bare LockReleased bare_released w

-- the history after the last stored command was noted, and no other note came
module _ (s s' : LiveLog) (m m1 m2 : MasterState) (cause : Option Refusal) (c : Command) (accepted : IsAccepted s.log s'.log cause c) (noted : WasNoted (last_stored s'.log.commands) m m1) (still : history_of m2.seen ≡ history_of m1.seen) where
  pub adds_last : history_of m2.seen ≡ history_of m.seen ++ Did c ∷ []
  adds_last = still ∙ noted.history ∙ ap (λ n. history_of m.seen ++ n ∷ []) (ap last_stored accepted.stored ∙ last_stored_more s.log.commands c)

  pub noted_last : (claims : List ℕ) → AreTold s claims (history_of m.seen) → WereTold s.links s'.links s'.log → AreTold s' claims (history_of m2.seen)
  noted_last claims t told =
      let now : IsNoted s'.log claims (history_of m2.seen) = subst (IsNoted s'.log claims) (sym adds_last) (noted_did s.log s'.log claims (history_of m.seen) cause c t.0 accepted) in (
        now,
        run_told s'.log claims (history_of m2.seen) now s.links s'.links told
            (subst (λ k. AreOfRun k s.links (history_of m2.seen)) (sym accepted.same_root) (run_longer s.log.root s.links (history_of m.seen) (history_of m2.seen) (Did c ∷ [], sym adds_last) t.1)),
      )

-- a rename stored a command if and only if there are more commands than before
module _ (s s' : TreeLog) (cause : Option Refusal) (c : Command) (stays : Bool) (same : stays ≡ true → s' ≡ s) (accepted : stays ≡ false → IsAccepted s s' cause c) where
  longer : stays ≡ false → length s'.commands ≡ length s.commands + 1
  longer e = ap length (accepted e).stored ∙ length-append s.commands (c ∷ [])

  pub was_stored : length s'.commands ≢ length s.commands → stays ≡ false
  was_stored more = elim stays as (λ b. (b ≡ true → s' ≡ s) → b ≡ false) [
    | true ↦ λ x. absurd (more (ap (λ (l : TreeLog). length l.commands) (x refl)))
    | false ↦ λ x. refl
  ] same

  pub not_stored : length s'.commands ≡ length s.commands → stays ≡ true
  not_stored equal = elim stays as (λ b. (b ≡ false → length s'.commands ≡ length s.commands + 1) → b ≡ true) [
    | true ↦ λ x. refl
    | false ↦ λ x. absurd (let more = x refl in omega arith)
  ] longer
