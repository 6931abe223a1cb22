-- Why the removal of a key's node is refused, and what the lock guards then.
use Rattle.std.proofs.Common.{◌≡◌, ◌⊎◌, inl, inr, ℕ, refl, ap, sym, ◌∙◌, subst, Bool, true, false, List, [], ◌∷◌, ◌++◌}
use Rattle.std.specs.Prelude.{None, MatchBool, not}
use Rattle.std.proofs.lemmas.Bool.{MatchBool-at_true, MatchBool-at_false}
use Rattle.std.proofs.lemmas.Option.{none-some}
use Rattle.kf_core.specs.declared.command.Command.TheVariants.{Doom}
use Rattle.kf_core.specs.declared.key.Key.{Key}
use Rattle.kf_core.specs.declared.refusal.Refusal.{Refusal}
use Rattle.kf_core.specs.declared.refusal.Refusal.TheVariants.{NoEntry, NoMemory, Access, Busy, Exists, NoDevice, NotDir, IsDir, Invalid, TooManyHolds, NoSpace, NameTooLong}
use Rattle.kf_core.specs.Refusals.{unless, first_cause}
use Rattle.kf_core.specs.Keys.{same_key}
use Rattle.kf_core.specs.PostOrder.{IsPostOrder}
use Rattle.kf_core.specs.Tree.{Tree, is_linked}
use Rattle.kf_tree.specs.Causes.{doom_cause}
use Rattle.kf_tree.specs.TreeLogs.{TreeLog, IsAccepted, IsKept}
use Rattle.kf_words.specs.declared.view.MasterView.{MasterView}
use Rattle.kf_words.specs.Callers.{TableId, Handle}
use Rattle.kf_words.specs.Nodes.{KeepsNodes, PinRefused}
use Rattle.kf_words.specs.Notes.{history_of}
use Rattle.kf_shared.specs.Noted.{IsNoted}
use Rattle.kf_words.specs.declared.note.Note.TheVariants.{Did}
use Rattle.kf_shared.specs.Locked.{Locked, Adds, IsTied, IsWhole, HoldRefused, history}
use Rattle.kf_shared.specs.Removal.{keys_of, DoomDone, DoomHolds, DoomNoted, DoomRefused}
use Rattle.kf_shared.specs.Receipts.{HasBelow, HoldsRefusal, KeyRefused}
use Rattle.kf_shared.proofs.Ties.{locked, tied_master}
use Rattle.kf_shared.proofs.Pins.{doom_cause_of_root}
use Rattle.kf_shared.proofs.Refusals.{removal_refused}

-- if no cause refuses the doom of a key, the key is linked and is not the root
pub linked_to_doom : (t : Tree) (root key : Key) → doom_cause t root key ≡ None → is_linked t key ≡ true
linked_to_doom t root key none = elim (is_linked t key) as (λ b. is_linked t key ≡ b → b ≡ true) [
  | true ↦ λ e. refl
  | false ↦ λ e. absurd (none-some NoEntry (sym none ∙ ap (λ b. first_cause (unless b NoEntry ∷ unless (not (same_key key root)) Invalid ∷ [])) e))
] refl

-- a pin is refused because its slot is full, or for lack of memory
pin_refusal : (m : MasterView) (slot : ℕ) (why : Refusal) (m' : MasterView) → PinRefused m slot why m' → HoldsRefusal why
pin_refusal m slot TooManyHolds m' h = inl refl
pin_refusal m slot NoMemory m' h = inr refl
pin_refusal m slot NoEntry m' h = absurd h
pin_refusal m slot Access m' h = absurd h
pin_refusal m slot Busy m' h = absurd h
pin_refusal m slot Exists m' h = absurd h
pin_refusal m slot NoDevice m' h = absurd h
pin_refusal m slot NotDir m' h = absurd h
pin_refusal m slot IsDir m' h = absurd h
pin_refusal m slot Invalid m' h = absurd h
pin_refusal m slot NoSpace m' h = absurd h
pin_refusal m slot NameTooLong m' h = absurd h

-- if a hold of a linked node was refused, so was the node's removal
pub hold_key_refused : (s : TreeLog) (old new : Locked) (key : Key) (why told : Refusal) → s ≡ old.state → told ≡ why → doom_cause s.tree s.root key ≡ None → HoldRefused old new key why → KeyRefused old.state key told
hold_key_refused s old new key why told same e none h =
    let cause : doom_cause old.state.tree old.state.root key ≡ None = subst (λ (l : TreeLog). doom_cause l.tree l.root key ≡ None) same none in
    subst (KeyRefused old.state key) (sym e)
    (inr (cause, pin_refusal old.master.view key.slot why new.master.view (MatchBool-at_true _ _ (linked_to_doom old.state.tree old.state.root key cause) h)))

-- if the doom of the hold's node was refused, so was the removal of the key's node
pub doom_key_refused : (s : TreeLog) (old mid new : Locked) (held key : Key) (why : Refusal) → s ≡ old.state → doom_cause s.tree s.root key ≡ None → mid.state ≡ old.state → held ≡ key → DoomRefused mid new held why → KeyRefused old.state key why
doom_key_refused s old mid new held key why same none between is h =
    let cause : doom_cause old.state.tree old.state.root key ≡ None = subst (λ (l : TreeLog). doom_cause l.tree l.root key ≡ None) same none in
    let there : DoomRefused (locked old.state mid.links mid.master mid.claims) new key why =
    subst (λ k. DoomRefused (locked old.state mid.links mid.master mid.claims) new k why) is (subst (λ (l : TreeLog). DoomRefused (locked l mid.links mid.master mid.claims) new held why) between h) in
    inr (cause, told (is_linked old.state.tree key) (same_key key old.state.root) refl refl cause (removal_refused (locked old.state mid.links mid.master mid.claims) new key why there))
  where
    told : (a b : Bool) → is_linked old.state.tree key ≡ a → same_key key old.state.root ≡ b → doom_cause old.state.tree old.state.root key ≡ None
        → MatchBool (is_linked old.state.tree key) (MatchBool (same_key key old.state.root) (why ≡ Invalid) (((why ≡ TooManyHolds) × HasBelow old.state.tree key) ⊎ (why ≡ NoMemory))) (why ≡ NoMemory) → HoldsRefusal why
    told false b e f none m = inr (MatchBool-at_false _ _ e m)
    told true true e f none m = absurd (none-some Invalid (sym none ∙ doom_cause_of_root old.state.tree old.state.root key e f))
    told true false e f none m = elim (MatchBool-at_false _ _ f (MatchBool-at_true _ _ e m)) [ inl full ↦ inl full.0 | inr memory ↦ inr memory ]

-- the doom of the hold's node gave holds of the key's subtree, in post-order
pub doom_key_ordered : (s : TreeLog) (old mid : Locked) (hold : Handle) (holds : List Handle) (key : Key) → s ≡ old.state → doom_cause s.tree s.root key ≡ None → mid.state ≡ old.state → hold.key ≡ key → DoomHolds mid.state.tree hold holds
    → IsPostOrder old.state.tree key (keys_of holds)
doom_key_ordered s old mid hold holds key same none between is order =
    let cause : doom_cause old.state.tree old.state.root key ≡ None = subst (λ (l : TreeLog). doom_cause l.tree l.root key ≡ None) same none in
    let there : DoomHolds old.state.tree hold holds = subst (λ (l : TreeLog). DoomHolds l.tree hold holds) between order in
    MatchBool-at_true _ _ (linked_to_doom old.state.tree old.state.root key cause)
    (subst (λ (k : Key). MatchBool (is_linked old.state.tree k) (IsPostOrder old.state.tree k (keys_of holds)) (holds ≡ hold ∷ [])) is there)

-- the doom of the hold's node is a doom of the key that was accepted
pub doom_key_done : (s : TreeLog) (old mid new : Locked) (held key : Key) → s ≡ old.state → doom_cause s.tree s.root key ≡ None → mid.state ≡ old.state → held ≡ key → DoomDone mid new held
    → IsAccepted old.state new.state (doom_cause old.state.tree old.state.root key) (Doom key)
doom_key_done s old mid new held key same none between is done =
    let cause : doom_cause old.state.tree old.state.root key ≡ None = subst (λ (l : TreeLog). doom_cause l.tree l.root key ≡ None) same none in
    let there : DoomDone (locked old.state mid.links mid.master mid.claims) new key =
    subst (λ k. DoomDone (locked old.state mid.links mid.master mid.claims) new k) is (subst (λ (l : TreeLog). DoomDone (locked l mid.links mid.master mid.claims) new held) between done) in
    MatchBool-at_true _ _ (linked_to_doom old.state.tree old.state.root key cause) there

-- the doom of the hold's node was noted as a doom of the key
pub doom_key_noted : (s : TreeLog) (old mid new : Locked) (held key : Key) → s ≡ old.state → doom_cause s.tree s.root key ≡ None → mid.state ≡ old.state → history mid ≡ history old → held ≡ key → DoomNoted mid new held
    → Adds old new (Did (Doom key))
doom_key_noted s old mid new held key same none between kept is noted =
    let cause : doom_cause old.state.tree old.state.root key ≡ None = subst (λ (l : TreeLog). doom_cause l.tree l.root key ≡ None) same none in
    let there : DoomNoted (locked old.state mid.links mid.master mid.claims) new key =
    subst (λ k. DoomNoted (locked old.state mid.links mid.master mid.claims) new k) is (subst (λ (l : TreeLog). DoomNoted (locked l mid.links mid.master mid.claims) new held) between noted) in
    MatchBool-at_true _ _ (linked_to_doom old.state.tree old.state.root key cause) there ∙ ap (λ l. l ++ Did (Doom key) ∷ []) kept

-- what the lock guards is still whole, if the tree, the claims and what the Master knows of nodes have stayed
pub whole_kept : (table : TableId) (old new : Locked) → IsWhole table old → new.state ≡ old.state → KeepsNodes old.master new.master → new.claims ≡ old.claims → IsWhole table new
whole_kept table old new whole state words claims = record {
  kept = subst IsKept (sym state) whole.kept;
  tied = subst (λ (s : TreeLog). IsTied table s new.master new.claims) (sym state)
      (subst (λ (l : List ℕ). IsTied table old.state new.master l) (sym claims) (tied_master table old.state old.master new.master old.claims whole.tied words));
  told = subst (λ (s : TreeLog). IsNoted s new.claims (history_of new.master.seen)) (sym state)
      (subst (λ (l : List ℕ). IsNoted old.state l (history_of new.master.seen)) (sym claims) (subst (IsNoted old.state old.claims) (sym words.history) whole.told));
}
