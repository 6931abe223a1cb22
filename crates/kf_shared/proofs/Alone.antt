-- What was done while the lock was held once, as it is seen by the seats that met the Master before the
-- unlock.
use Rattle.std.proofs.Common.{◌≡◌, ℕ, Bool, true, false, List, [], ◌∷◌, ◌++◌, refl, sym, ap, ◌∙◌, subst}
use Rattle.std.specs.Prelude.{MatchBool, Result, Ok, Err, IfOk, OnOk, None, not}
use Rattle.std.proofs.lemmas.List.{append-nil, append_assoc}
use mathlib.Core.List.{IsPrefix}
use Rattle.kf_core.specs.declared.command.Command.TheVariants.{Doom, Hide}
use Rattle.kf_core.specs.declared.key.Key.{Key}
use Rattle.kf_core.specs.Tree.{is_linked}
use Rattle.kf_words.specs.declared.note.Note.{Note}
use Rattle.kf_words.specs.declared.note.Note.TheVariants.{Did, Claimed, LockReleased}
use Rattle.kf_words.specs.Callers.{TableId, Handle}
use Rattle.kf_words.specs.Notes.{history_of}
use Rattle.kf_shared.specs.Hiding.{hold_cause}
use Rattle.kf_shared.specs.Locked.{Locked, IsWhole, history, is_claimed}
use Rattle.kf_shared.specs.Noted.{tree_in}
use Rattle.kf_shared.specs.Removal.{SelfDoomNoted}
use Rattle.kf_shared.specs.Receipts.{IsDoomList}
use Rattle.kf_shared.specs.Sections.{IsTaken, SawMore, WasAdded, WasAddedLate, WasClosed, WasFinished, WasHiddenAlone, WasSelfRemoved, WasShownAlone, note_where, self_notes, show_note, unlink_note}
use Rattle.kf_shared.proofs.Notes.{tree_told, claims_told}
use Rattle.kf_shared.proofs.Hearing.{prefix_self, prefix_trans, more_told}

-- these notes, and no others, were added before the unlock
pub late_added : (old new : Locked) (before mid closed after : Handle) (added : List Note) → SawMore before.seen mid.seen → history new ≡ history old ++ added → WasClosed new [] mid closed → SawMore closed.seen after.seen
    → WasAddedLate before.seen after.seen (history old) added
late_added old new before mid closed after added first notes shut more = record {
  came = subst (IsPrefix (history_of before.seen)) notes (prefix_trans (history_of before.seen) (history_of mid.seen) (history new) (more_told before.seen mid.seen first) shut.came);
  next = subst (λ n. IsPrefix n (history_of after.seen)) (shut.seen ∙ ap (λ n. n ++ LockReleased ∷ []) (append-nil (history new) ∙ notes)) (more_told closed.seen after.seen more);
}

none_before : (notes rest : List Note) → notes ≡ [] → rest ≡ notes ++ rest
none_before notes rest none = sym (ap (λ l. l ++ rest) none ∙ (let r : [] ++ rest ≡ rest = refl in r))

-- what a self-removal added to the history
pub self_added : (old new : Locked) (key : Key) → SelfDoomNoted old new key → history new ≡ history old ++ self_notes old.state.tree key
self_added old new key noted = go (is_linked old.state.tree key) noted
  where
    go : (b : Bool) → MatchBool b (history new ≡ (history old ++ Did (Doom key) ∷ []) ++ Claimed key ∷ []) (history new ≡ history old ++ Claimed key ∷ []) → history new ≡ history old ++ (note_where b (Did (Doom key)) ++ Claimed key ∷ [])
    go true e = e ∙ append_assoc (history old) (Did (Doom key) ∷ []) (Claimed key ∷ [])
    go false e = e ∙ ap (λ l. history old ++ l) (none_before (note_where false (Did (Doom key))) (Claimed key ∷ []) refl)

module _ (table : TableId) (old : Locked) (whole : IsWhole table old) (taken : IsTaken (history old)) where
  tree : old.state.tree ≡ tree_in (history old)
  tree = tree_told old.state old.claims (history old) whole.told

  -- an unlink is all that was done
  pub finished_alone : (before after : Handle) → WasClosed old (unlink_note old.state.tree before.key) before after → WasFinished before after
  finished_alone before after shut = (
    history old,
    record {
      taken = taken;
      section = subst (λ t. WasAdded before.seen after.seen (history old) (unlink_note t before.key)) tree (record {
        came = shut.came;
        next = subst (λ n. IsPrefix n (history_of after.seen)) shut.seen (prefix_self (history_of after.seen));
      });
    },
  )

  pub finished_in : {E : Type 0} (r : Result Bool E) (before after : Handle) → IfOk r (λ _. WasClosed old (unlink_note old.state.tree before.key) before after) → OnOk r (WasFinished before after)
  finished_in (Ok x) before after h = finished_alone before after h
  finished_in (Err e) before after h = tt

  -- a show is all that was done
  pub shown_alone : (before after : Handle) → IsPrefix (history_of before.seen) (history old) → history_of after.seen ≡ (history old ++ show_note old.state.tree before.key) ++ LockReleased ∷ [] → WasShownAlone before after
  shown_alone before after came seen = (
    history old,
    record {
      taken = taken;
      section = subst (λ t. WasAdded before.seen after.seen (history old) (show_note t before.key)) tree (record {
        came = came;
        next = subst (λ n. IsPrefix n (history_of after.seen)) seen (prefix_self (history_of after.seen));
      });
    },
  )

  -- a self-removal is all that was done
  pub self_removed : (before after : Handle) (first : Bool) (keys : List Key) → WasAddedLate before.seen after.seen (history old) (self_notes old.state.tree before.key) → first ≡ not (is_claimed old.claims before.key)
      → IsDoomList old.state.tree before.key keys → WasSelfRemoved before after first keys
  self_removed before after first keys late told listed = record {
    found = history old;
    done = record { taken = taken; section = subst (λ t. WasAddedLate before.seen after.seen (history old) (self_notes t before.key)) tree late };
    first_is = subst (λ (c : List ℕ). first ≡ not (is_claimed c before.key)) (claims_told old.state old.claims (history old) whole.told) told;
    listed = subst (λ t. IsDoomList t before.key keys) tree listed;
  }

  pub hidden_alone : {E : Type 0} (r : Result Handle E) (hold : Handle) → IfOk r (λ x. WasAddedLate hold.seen x.seen (history old) (Did (Hide hold.key) ∷ [])) → OnOk r (hold_cause old.state.tree hold ≡ None) → IfOk r (λ x. WasHiddenAlone hold x)
  hidden_alone (Ok x) hold late cause = (history old, record { taken = taken; section = late }, subst (λ t. hold_cause t hold ≡ None) tree cause)
  hidden_alone (Err e) hold late cause = tt

  pub self_removed_in : {X E : Type 0} (first : X → Bool) (keys : X → List Key) (r : Result X E) (before after : Handle) → OnOk r (WasAddedLate before.seen after.seen (history old) (self_notes old.state.tree before.key))
      → IfOk r (λ x. first x ≡ not (is_claimed old.claims before.key)) → IfOk r (λ x. IsDoomList old.state.tree before.key (keys x)) → IfOk r (λ x. WasSelfRemoved before after (first x) (keys x))
  self_removed_in first keys (Ok x) before after late told listed = self_removed before after (first x) (keys x) late told listed
  self_removed_in first keys (Err e) before after late told listed = tt
