-- Holds of the nodes of a subtree, and why they are refused.
use Rattle.std.proofs.Common.{◌≡◌, ◌≢◌, ◌⊎◌, inl, inr, ℕ, refl, ap, sym, ◌∙◌, subst, Bool, true, false, List, [], ◌∷◌, ◌++◌}
use Rattle.std.specs.Prelude.{Option, None, Some, Contains, MatchBool, not}
use Rattle.std.proofs.lemmas.Option.{none-some, same_Some}
use Rattle.std.proofs.lemmas.List.Elements.{Contains-append_left}
use Rattle.kf_core.specs.declared.key.Key.{Key}
use Rattle.kf_core.specs.declared.refusal.Refusal.{Refusal}
use Rattle.kf_core.specs.declared.refusal.Refusal.TheVariants.{NoEntry, NoMemory, Access, Busy, Exists, NoDevice, NotDir, IsDir, Invalid, TooManyHolds, NoSpace, NameTooLong}
use Rattle.kf_core.specs.Refusals.{unless, first_cause}
use Rattle.kf_core.specs.Keys.{same_key}
use Rattle.kf_core.specs.Tree.{Tree, is_linked, in_subtree}
use Rattle.kf_core.specs.PostOrder.{IsPostOrder}
use Rattle.kf_tree.specs.Causes.{Refuses, linked_cause, doom_cause}
use Rattle.kf_tree.specs.TreeLogs.{TreeLog, IsKept}
use Rattle.kf_words.specs.Callers.{Handle}
use Rattle.kf_words.specs.declared.view.MasterView.{MasterView}
use Rattle.kf_words.specs.Nodes.{MasterState, FoundFull, PinRefused, HeldPinRefused}
use Rattle.kf_looks.specs.declared.view.Link.{Link}
use Rattle.kf_shared.specs.Locked.{Locked}
use Rattle.kf_shared.proofs.Ends.{not_last}
use Rattle.kf_shared.proofs.Rooms.{top_full}
use Rattle.kf_shared.proofs.Ties.{locked}
use Rattle.kf_core.proofs.Different.{different}
use Rattle.kf_shared.specs.Removal.{keys_of, FoundFullBelow, HoldsBelowRefused, HoldsInRefused, DoomGivenUp, DoomRefused, SelfRemovalRefused, DoomHolds}

-- what must be shown in each of the two cases of a test
pub if_true : {b : Bool} (P Q : Type 0) → b ≡ true → P → MatchBool b P Q
if_true P Q e p = subst (λ b. MatchBool b P Q) (sym e) p

pub if_false : {b : Bool} (P Q : Type 0) → b ≡ false → Q → MatchBool b P Q
if_false P Q e q = subst (λ b. MatchBool b P Q) (sym e) q

-- if no cause refuses it, only memory was lacking
pub only_memory : (cause : Option Refusal) (refusal : Refusal) → cause ≡ None → Refuses cause refusal → refusal ≡ NoMemory
only_memory cause refusal none h = elim h [ inl e ↦ absurd (none-some refusal (sym none ∙ e)) | inr m ↦ m.1 ]

pub no_linked_cause : (t : Tree) (key : Key) → is_linked t key ≡ true → linked_cause t key ≡ None
no_linked_cause t key linked = ap (λ b. unless b NoEntry) linked

pub no_doom_cause : (t : Tree) (root key : Key) → is_linked t key ≡ true → same_key key root ≡ false → doom_cause t root key ≡ None
no_doom_cause t root key linked other =
    ap (λ b. first_cause (unless b NoEntry ∷ unless (not (same_key key root)) Invalid ∷ [])) linked
    ∙ ap (λ b. first_cause (unless true NoEntry ∷ unless (not b) Invalid ∷ [])) other

pub doom_cause_of_root : (t : Tree) (root key : Key) → is_linked t key ≡ true → same_key key root ≡ true → doom_cause t root key ≡ Some Invalid
doom_cause_of_root t root key linked same =
    ap (λ b. first_cause (unless b NoEntry ∷ unless (not (same_key key root)) Invalid ∷ [])) linked
    ∙ ap (λ b. first_cause (unless true NoEntry ∷ unless (not b) Invalid ∷ [])) same

-- a linked key that may be doomed is not the root
pub not_the_root : (t : Tree) (root key : Key) → is_linked t key ≡ true → doom_cause t root key ≡ None → same_key key root ≡ false
not_the_root t root key linked none = elim (same_key key root) as (λ b. same_key key root ≡ b → b ≡ false) [
  | true ↦ λ e. absurd (none-some Invalid (sym none ∙ doom_cause_of_root t root key linked e))
  | false ↦ λ e. refl
] refl

-- the doom of the root is refused
pub root_refused : (old new : Locked) (key : Key) → is_linked old.state.tree key ≡ true → same_key key old.state.root ≡ true → DoomRefused old new key Invalid
root_refused old new key linked same = if_true _ _ linked (if_true _ _ same refl)

pub cause_refused : (old new : Locked) (key : Key) (refusal : Refusal) → is_linked old.state.tree key ≡ true → doom_cause old.state.tree old.state.root key ≡ Some refusal → DoomRefused old new key refusal
cause_refused old new key refusal linked cause = go (same_key key old.state.root) refl
  where
    go : (b : Bool) → same_key key old.state.root ≡ b → DoomRefused old new key refusal
    go true e = if_true _ _ linked (if_true _ _ e (same_Some refusal Invalid (sym cause ∙ doom_cause_of_root old.state.tree old.state.root key linked e)))
    go false e = absurd (none-some refusal (sym (no_doom_cause old.state.tree old.state.root key linked e) ∙ cause))

-- each key of a post-order is in the subtree of its top
below_top : (t : Tree) (top key : Key) (keys : List Key) → IsPostOrder t top keys → Contains keys key → in_subtree t top key ≡ true
below_top t top key keys order h = ((order.members key).0 h).1

-- if a node before the last of a post-order is full, a node below the top is
pub full_below : (s : TreeLog) (m : MasterView) (top : Key) (keys below seen : List Key) → IsKept s → IsPostOrder s.tree top keys → keys ≡ below ++ top ∷ [] → seen ≡ below
    → (key : Key) → Contains seen key → FoundFull m key.slot → FoundFullBelow s.tree top m
full_below s m top keys below seen kept order parts is key h full =
    let among : Contains below key = subst (λ ks. Contains ks key) is h in (
      key,
      not_last keys below top key (different s.tree s.root kept.lawful top keys order) parts among,
      below_top s.tree top key keys order (subst (λ ks. Contains ks key) (sym parts) (Contains-append_left below (top ∷ []) key among)),
      full,
    )

-- what refuses the doom in one state refuses it in an equal state
pub same_refused : (old mid new : Locked) (key : Key) (refusal : Refusal) → mid.state ≡ old.state → DoomRefused mid new key refusal → DoomRefused old new key refusal
same_refused old mid new key refusal same h = subst (λ (s : TreeLog). DoomRefused (locked s mid.links mid.master mid.claims) new key refusal) same h

-- what refuses holds below a node of one tree refuses them in an equal tree
pub same_tree : (s s' : TreeLog) (m : MasterView) (top : Key) (refusal : Refusal) → s ≡ s' → HoldsBelowRefused s.tree top m refusal → HoldsBelowRefused s'.tree top m refusal
same_tree s s' m top refusal e h = subst (λ (x : TreeLog). HoldsBelowRefused x.tree top m refusal) e h

pub keys_more : (xs ys : List Handle) → keys_of (xs ++ ys) ≡ keys_of xs ++ keys_of ys
keys_more [] ys = refl
keys_more (x ∷ xs) ys = ap (λ ks. x.key ∷ ks) (keys_more xs ys)

-- the pins and the given hold are holds of the whole subtree
pub doom_holds : (t : Tree) (hold : Handle) (pins : List Handle) → is_linked t hold.key ≡ true → IsPostOrder t hold.key (keys_of pins ++ hold.key ∷ []) → DoomHolds t hold (pins ++ hold ∷ [])
doom_holds t hold pins linked order = if_true _ _ linked (subst (IsPostOrder t hold.key) (sym (keys_more pins (hold ∷ []))) order)

-- why a pin was refused, which is why the pins of several nodes were refused
pub why_refused : (m m' : MasterView) (keys : List Key) (key : Key) (refusal : Refusal) → Contains keys key → PinRefused m key.slot refusal m' → (refusal ≡ TooManyHolds → FoundFull m' key.slot) →
    (refusal ≡ NoMemory) ⊎ ((refusal ≡ TooManyHolds) × ((k : Key) × Contains keys k × FoundFull m' k.slot))
why_refused m m' keys key TooManyHolds h p full = inr (refl, (key, h, full refl))
why_refused m m' keys key NoMemory h p full = inl refl
why_refused m m' keys key NoEntry h p full = absurd p
why_refused m m' keys key Access h p full = absurd p
why_refused m m' keys key Busy h p full = absurd p
why_refused m m' keys key Exists h p full = absurd p
why_refused m m' keys key NoDevice h p full = absurd p
why_refused m m' keys key NotDir h p full = absurd p
why_refused m m' keys key IsDir h p full = absurd p
why_refused m m' keys key Invalid h p full = absurd p
why_refused m m' keys key NoSpace h p full = absurd p
why_refused m m' keys key NameTooLong h p full = absurd p

-- if a hold of the call's own node was refused, so was the self-removal
pub held_refused : (old new : Locked) (held : MasterState) (key : Key) (why refusal : Refusal) → same_key key old.state.root ≡ false
    → HeldPinRefused old.master.view key why held.view → (why ≡ TooManyHolds → FoundFull held.view key.slot)
    → (why ≡ NoMemory → HoldsInRefused old.state.tree key new.master.view refusal) → (why ≢ NoMemory → (refusal ≡ why) × (new.master ≡ held)) → SelfRemovalRefused old new key refusal
held_refused old new held key NoEntry refusal other h full memory stays = if_false _ _ other (inl ((stays (λ e. cc)).0, h.0))
held_refused old new held key TooManyHolds refusal other h full memory stays =
    let s = stays (λ e. cc) in
    if_false _ _ other (inr (h.0, subst (λ r. HoldsInRefused old.state.tree key new.master.view r) (sym s.0) (top_full old.state.tree key new.master.view (subst (λ (x : MasterState). FoundFull x.view key.slot) (sym s.1) (full refl)))))
held_refused old new held key NoMemory refusal other h full memory stays = if_false _ _ other (inr (h.0, memory refl))
held_refused old new held key Access refusal other h full memory stays = absurd h
held_refused old new held key Busy refusal other h full memory stays = absurd h
held_refused old new held key Exists refusal other h full memory stays = absurd h
held_refused old new held key NoDevice refusal other h full memory stays = absurd h
held_refused old new held key NotDir refusal other h full memory stays = absurd h
held_refused old new held key IsDir refusal other h full memory stays = absurd h
held_refused old new held key Invalid refusal other h full memory stays = absurd h
held_refused old new held key NoSpace refusal other h full memory stays = absurd h
held_refused old new held key NameTooLong refusal other h full memory stays = absurd h

-- the doom was given up, since a pin of one of the nodes below was refused
pub pins_given_up : (s s' : TreeLog) (m : MasterView) (top : Key) (keys below seen : List Key) → IsKept s → IsPostOrder s.tree top keys → keys ≡ below ++ top ∷ [] → seen ≡ below
    → doom_cause s.tree s.root top ≡ None → s ≡ s' → is_linked s'.tree top ≡ true → (refusal told : Refusal) → told ≡ refusal
    → (refusal ≡ NoMemory) ⊎ ((refusal ≡ TooManyHolds) × ((key : Key) × Contains seen key × FoundFull m key.slot)) → DoomGivenUp s' top m told
pins_given_up s s' m top keys below seen kept order parts is none same linked refusal told e h =
    subst (DoomGivenUp s' top m) (sym e) (subst (λ (l : TreeLog). DoomGivenUp l top m refusal) same
    (if_false _ _ (not_the_root s.tree s.root top (subst (λ (l : TreeLog). is_linked l.tree top ≡ true) (sym same) linked) none) (elim h [
      | inl memory ↦ inr memory
      | inr f ↦ inl (f.0, full_below s m top keys below seen kept order parts is f.1.0 f.1.1 f.1.2)
    ])))

-- the same if the refusal was not for lack of memory
pub held_met : (s : TreeLog) (links : List Link) (m held : MasterState) (claims : List ℕ) (now : Locked) (key : Key) (why told : Refusal) → locked s links m claims ≡ now → told ≡ why → same_key key now.state.root ≡ false
    → HeldPinRefused m.view key why held.view → (why ≡ TooManyHolds → FoundFull held.view key.slot) → told ≢ NoMemory → SelfRemovalRefused now (locked s links held claims) key told
held_met s links m held claims now key why told is e other h full n =
    subst (λ r. SelfRemovalRefused now (locked s links held claims) key r) (sym e)
    (subst (λ (l : Locked). SelfRemovalRefused l (locked s links held claims) key why) is
    (held_refused (locked s links m claims) (locked s links held claims) held key why why (subst (λ (l : Locked). same_key key l.state.root ≡ false) (sym is) other) h full
    (λ memory. absurd (n (e ∙ memory))) (λ _. (refl, refl))))
