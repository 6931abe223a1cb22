-- What a token has done once it has hidden its file and looked.
use Rattle.std.proofs.Common.{◌≡◌, ◌⊎◌, List, Option, None, Some, sym, ◌∙◌, ap, subst, refl, inl, inr, slice_set}
use Rattle.kf_core.specs.declared.caller.Phase.TheVariants as phase_of
use Rattle.kf_core.specs.declared.command.Command.{Command}
use Rattle.kf_core.specs.declared.command.Command.TheVariants.{Hide}
use Rattle.kf_core.specs.declared.key.Key.{Key}
use Rattle.kf_core.specs.declared.refusal.Refusal.{Refusal}
use Rattle.kf_tree.specs.TreeLogs.{TreeLog, IsAccepted}
use Rattle.kf_words.specs.Callers.{TableId, Handle}
use Rattle.kf_shared.specs.Hiding.{hold_cause}
use Rattle.kf_shared.specs.Locked.{Locked}
use Rattle.kf_handles.specs.Hiding.{HasHidden, HasLookedAgain, IsHidden, IsSeen, IsTokenOf, LookedOnce}
use Rattle.kf_handles.proofs.BySlot.{put_back, put_new}

other : {A B : Type 0} → A ⊎ B → (¬ A) → B
other (inl a) not_a = absurd (not_a a)
other (inr b) not_a = b

-- a token that had not yet seen that nobody is inside made one look
looked_once : (before after : Handle) → HasLookedAgain before after → before.phase ≡ phase_of.Hiding
    → LookedOnce before after
looked_once before after looked phase = other looked (λ seen.
    let never : phase_of.Hiding ≡ phase_of.Hidden = sym phase ∙ seen.0 in cc)

-- a look changes neither the key nor the node of the token, so the same command is accepted for it
accepted_of_same : (old new : TreeLog) (before after : Handle) (command : Command)
    → after.key ≡ before.key → after.node ≡ before.node
    → IsAccepted old new (hold_cause old.tree before) command
    → IsAccepted old new (hold_cause old.tree after) command
accepted_of_same old new before after command key node accepted =
    let same : hold_cause old.tree after ≡ hold_cause old.tree before = rw (key, node) refl in
    let With : Option Refusal → Type 0 = λ cause. IsAccepted old new cause command in
    subst With (sym same) accepted

-- the token that was at the slot looked, and is put back
pub looked_again : (Saw : Handle → Type 0) (table : TableId) (old : Locked) (tokens taken put : List (Option Handle))
    (key : Key) (token : Handle) → IsTokenOf tokens key token → taken ≡ slice_set tokens key.slot None
    → IsSeen Saw taken put token → IsHidden Saw table old tokens old put key
looked_again Saw table old tokens taken put key token at out seen = (
  seen.0,
  seen.1.key ∙ at.0,
  seen.3,
  put_back tokens taken put key token.key (Some seen.0) out at.0 seen.4,
  inr (refl, token, at, seen.2),
)

-- the file was hidden just now, and its new token looked
pub began : (Saw : Handle → Type 0) (table : TableId) (old new : Locked) (tokens taken put : List (Option Handle))
    (key : Key) (hiding token : Handle) → token ≡ hiding → hiding.key ≡ key → hiding.phase ≡ phase_of.Hiding
    → HasHidden table old key hiding
    → IsAccepted old.state new.state (hold_cause old.state.tree hiding) (Hide key) → new.claims ≡ old.claims
    → taken ≡ tokens → IsSeen Saw taken put token → IsHidden Saw table old tokens new put key
began Saw table old new tokens taken put key hiding token same at phase hid accepted claims none seen =
    let here : token.key ≡ key = ap (λ (h : Handle). h.key) same ∙ at in (
      seen.0,
      seen.1.key ∙ here,
      seen.3,
      put_new tokens taken put key token.key (Some seen.0) none here seen.4,
      inl (record {
        hid = (
          token,
          subst (HasHidden table old key) (sym same) hid,
          looked_once token seen.0 seen.2 (ap (λ (h : Handle). h.phase) same ∙ phase),
        );
        accepted = accepted_of_same old.state new.state hiding seen.0 (Hide key)
            (seen.1.key ∙ ap (λ (h : Handle). h.key) same) (seen.1.node ∙ ap (λ (h : Handle). h.node) same) accepted;
        claims = claims;
      }),
    )
