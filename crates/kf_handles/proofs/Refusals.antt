-- Why a node is not marked, why a step is refused, and why no looker is made.
use Rattle.std.proofs.Common.{◌≡◌, ◌≢◌, ◌⊎◌, inl, inr, ℕ, Bool, true, false, List, [], ◌∷◌, ◌++◌, length, refl, sym, ◌∙◌, subst, arith}
use Rattle.std.specs.Prelude.{None, Some, MatchBool, slice_get, ℤ, pos, neg_ℤ}
use Rattle.std.proofs.lemmas.Bool.{MatchBool-at_true}
use Rattle.kf_core.specs.declared.key.Key.{Key}
use Rattle.kf_core.specs.declared.refusal.Refusal.{Refusal}
use Rattle.kf_core.specs.declared.refusal.Refusal.TheVariants.{NoEntry, NoMemory, TooManyHolds}
use Rattle.kf_core.specs.Refusals.{number_of}
use Rattle.kf_core.specs.Tree.{Tree, is_linked, parent_of}
use Rattle.kf_core.proofs.Climbs.{same_key_self, meets_here}
use Rattle.kf_tree.specs.Causes.{doom_cause}
use Rattle.kf_tree.specs.TreeLogs.{TreeLog}
use Rattle.kf_words.specs.declared.view.MasterView.{MasterView}
use Rattle.kf_words.specs.Nodes.{FoundFull, PinRefused, WasFull}
use Rattle.kf_shared.specs.Locked.{Locked, HoldRefused}
use Rattle.kf_shared.specs.Removal.{FoundFullIn}
use Rattle.kf_shared.proofs.Pins.{if_false, not_the_root, why_refused}
use Rattle.kf_shared.specs.Finding.{PathHolderState}
use Rattle.kf_handles.specs.Answers.{IsAsBefore}
use Rattle.kf_handles.specs.Lookers.{IsLookerIn, LookerRefused}
use Rattle.kf_handles.specs.Removing.{MarkRefused}
use Rattle.kf_handles.specs.Tasks.{SteppedBehind, StepToldWhy}
use Rattle.kf_handles.specs.declared.object.Object.{Object}
use Rattle.kf_handles.specs.declared.object.Object.TheVariants as behind
use Rattle.kf_handles.specs.declared.questions.TreeReply.TheVariants as told
use Rattle.kf_handles.specs.declared.questions.Task.{Task}

-- the load that was made last is at the end of the list
last_there : {X : Type 0} (xs : List X) (x : X) → slice_get (xs ++ x ∷ []) (length xs) ≡ Some x
last_there [] x = refl
last_there (y ∷ xs) x = last_there xs x

found_full : (m m' : MasterView) (slot : ℕ) → WasFull m slot m' → FoundFull m' slot
found_full m m' slot (found, full, is) = subst (λ (w : MasterView). FoundFull w slot) (sym is)
    (length m.loads, record { slot = slot; word = found }, last_there m.loads (record { slot = slot; word = found }), refl, full)

-- if the top was found with the greatest number of holds, a node of its subtree was
top_in : (t : Tree) (top : Key) (m : MasterView) → FoundFull m top.slot → FoundFullIn t top m
top_in t top m full = (top, meets_here (parent_of t) (length t) top top (same_key_self top), full)

-- a hold of a linked node was refused because the node was found with the greatest number of holds, or for
-- lack of memory
hold_was_full : (old mid : Locked) (key : Key) (why : Refusal) → is_linked old.state.tree key ≡ true
    → HoldRefused old mid key why
    → (why ≡ NoMemory) ⊎ ((why ≡ TooManyHolds) × FoundFull mid.master.view key.slot)
hold_was_full old mid key why linked refused =
    let pin : PinRefused old.master.view key.slot why mid.master.view = MatchBool-at_true _ _ linked refused in
    let full : why ≡ TooManyHolds → FoundFull mid.master.view key.slot = λ e.
    found_full old.master.view mid.master.view key.slot (subst (λ w. PinRefused old.master.view key.slot w mid.master.view) e pin) in
    elim (why_refused old.master.view mid.master.view (key ∷ []) key why (0, omega arith, refl) pin full) [
      | inl memory ↦ inl memory
      | inr many ↦ inr (many.0, full many.0)
    ]

-- if a hold was refused as one too many, the slot was found with the greatest number of holds
pub full_of : (old new : Locked) (key : Key) → HoldRefused old new key TooManyHolds → FoundFull new.master.view key.slot
full_of old new key refused = go (is_linked old.state.tree key) refused
  where
    go : (b : Bool)
        → MatchBool b (PinRefused old.master.view key.slot TooManyHolds new.master.view) ((TooManyHolds ≡ NoEntry) × (new ≡ old))
        → FoundFull new.master.view key.slot
    go true full = found_full old.master.view new.master.view key.slot full
    go false (never, same) = cc

-- if a hold of the top was refused, the mark is refused for that reason, or because a node of the subtree was
-- found with the greatest number of holds
pub by_hold : (old mid new : Locked) (key : Key) (why told : Refusal) → is_linked old.state.tree key ≡ true
    → doom_cause old.state.tree old.state.root key ≡ None → mid.state ≡ old.state → HoldRefused old mid key why
    → (why ≢ NoMemory → (told ≡ why) × (new ≡ mid))
    → (why ≡ NoMemory → (told ≡ why) ⊎ ((told ≡ TooManyHolds) × FoundFullIn mid.state.tree key new.master.view))
    → MarkRefused old new key told
by_hold old mid new key why told linked none same refused other memory =
    if_false _ _ (not_the_root old.state.tree old.state.root key linked none) (elim (hold_was_full old mid key why linked refused) [
      | inl want ↦ elim (memory want) [
        | inl is ↦ inr (is ∙ want)
        | inr full ↦ inl (full.0, subst (λ (s : TreeLog). FoundFullIn s.tree key new.master.view) same full.1)
      ]
      | inr full ↦
          let stays = other (λ e. let never : TooManyHolds ≡ NoMemory = sym full.0 ∙ e in cc) in
          inl (
            stays.0 ∙ full.0,
            subst (λ (l : Locked). FoundFullIn old.state.tree key l.master.view) (sym stays.1) (top_in old.state.tree key mid.master.view full.1),
          )
    ])

-- if the tree refuses a step, the number that is returned says why
pub step_told : (what : Task) (old new : Object) (why : Refusal) (number : ℤ) → SteppedBehind what old new (told.Refused why)
    → number ≡ neg_ℤ (pos (number_of why)) → StepToldWhy what old new number
step_told what (behind.Tree old) (behind.Tree new) why number h e = (why, e, h.0)
step_told what (behind.Tree old) behind.Empty why number (same, never) e = cc
step_told what (behind.Tree old) (behind.Post new) why number (same, never) e = cc
step_told what (behind.Tree old) (behind.File new) why number (same, never) e = cc
step_told what (behind.Tree old) (behind.Looker new) why number (same, never) e = cc
step_told what (behind.Tree old) (behind.Gate new) why number (same, never) e = cc
step_told what (behind.Tree old) (behind.Pass new) why number (same, never) e = cc
step_told what behind.Empty new why number (same, never) e = cc
step_told what (behind.Post old) new why number (same, never) e = cc
step_told what (behind.File old) new why number (same, never) e = cc
step_told what (behind.Looker old) new why number (same, never) e = cc
step_told what (behind.Gate old) new why number (same, never) e = cc
step_told what (behind.Pass old) new why number (same, never) e = cc

-- a looker of the tree was made, but then there was no memory
pub looker_wants_memory : (old new : Object) (looker : PathHolderState) → IsLookerIn old looker → IsAsBefore old new
    → LookerRefused old new NoMemory
looker_wants_memory (behind.Tree old) (behind.Tree new) looker made same = inr refl
looker_wants_memory (behind.Tree old) behind.Empty looker made same = cc
looker_wants_memory (behind.Tree old) (behind.Post new) looker made same = cc
looker_wants_memory (behind.Tree old) (behind.File new) looker made same = cc
looker_wants_memory (behind.Tree old) (behind.Looker new) looker made same = cc
looker_wants_memory (behind.Tree old) (behind.Gate new) looker made same = cc
looker_wants_memory (behind.Tree old) (behind.Pass new) looker made same = cc
looker_wants_memory behind.Empty new looker never same = absurd never
looker_wants_memory (behind.Post old) new looker never same = absurd never
looker_wants_memory (behind.File old) new looker never same = absurd never
looker_wants_memory (behind.Looker old) new looker never same = absurd never
looker_wants_memory (behind.Gate old) new looker never same = absurd never
looker_wants_memory (behind.Pass old) new looker never same = absurd never
