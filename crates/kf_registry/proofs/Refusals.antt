-- Why values are not published, taken, swapped or called, in the tree that was found under the lock.
use Rattle.std.proofs.Common.{◌≡◌, ◌∙◌, ◌⊎◌, ◌↔◌, IsTrue, inl, inr, ℕ, List, length, refl, sym, ap, subst, Bool, true, false}
use mathlib.Core.Bool.{false≢true}
use Rattle.std.specs.Option.{option_map}
use Rattle.std.proofs.lemmas.Option.{none-some}
use Rattle.std.specs.Prelude.{None, Some, Ok, Err, Result, Option, MatchBool, MatchResult, is_some, ◌∷◌, []}
use Rattle.kf_core.specs.declared.key.Key.{Key}
use Rattle.kf_core.specs.declared.key.Node.{Node}
use Rattle.kf_core.specs.declared.refusal.Refusal.{Refusal}
use Rattle.kf_core.specs.declared.refusal.Refusal.TheVariants.{NoEntry, NoMemory, Access, Busy, Exists, NoDevice, NotDir, IsDir, Invalid, TooManyHolds, NoSpace, NameTooLong}
use Rattle.kf_core.specs.Refusals.{unless, first_cause}
use Rattle.kf_core.specs.Tree.{Tree, is_linked, record_at}
use Rattle.kf_tree.specs.Causes.{Refuses, create_fault, rename_cause}
use Rattle.kf_tree.specs.Paths.{seen}
use Rattle.kf_tree.specs.TreeLogs.{TreeLog, IsRefused}
use Rattle.kf_words.specs.Callers.{Handle, TableId}
use Rattle.kf_words.specs.declared.view.MasterView.{MasterView}
use Rattle.kf_words.specs.Nodes.{PinRefused}
use Rattle.kf_words.specs.Notes.{history_of}
use Rattle.kf_shared.specs.Finding.{HoldCause, WasNamed}
use Rattle.kf_shared.specs.Locked.{CreateRefused, HoldRefused, IsHoldOfNode, IsWhole, Locked, history, move_cause}
use Rattle.kf_shared.specs.Receipts.{HoldsRefusal}
use Rattle.kf_shared.specs.Sections.{IsTaken}
use Rattle.kf_shared.proofs.Notes.{tree_told}
use Rattle.kf_registry.specs.Names.{name_in}
use Rattle.kf_registry.specs.Receipts.{IsHot, IsPlain, WasMovedAway, moved_tree, value_node}
use Rattle.kf_registry.specs.Refusals.{GiveWayCause, StandCause, SwapCause, WasFound}

-- what was true of the tree behind the lock was true of the tree that the history gives, and the hold has
-- seen that history
pub was_found : (table : TableId) (s : Locked) (by : Handle) (Such : Tree → Key → Type 0) → IsWhole table s → IsTaken (history s) → history_of by.seen ≡ history s → Such s.state.tree s.state.root → WasFound by Such
was_found table s by Such whole taken known such = record {
  found = history s;
  root = s.state.root;
  at = record { slots = length s.state.tree; began = whole.told.began; taken = taken; known = known };
  such = subst (λ (t : Tree). Such t s.state.root) (tree_told s.state s.claims (history s) whole.told) such;
}

-- the path is one of a registry, and this was true of its name
pub name_refused : (P : List ℕ → Type 0) (path name : List ℕ) (why : Refusal) → name_in path ≡ Ok name → P name → MatchResult (name_in path) P (λ refusal. why ≡ refusal)
name_refused P path name why e p = subst (λ (r : Result (List ℕ) Refusal). MatchResult r P (λ refusal. why ≡ refusal)) (sym e) p

-- the path named this node, and this was true of it; or it named none, for this reason
pub named : (P : Key → Type 0) (found : Result Key Refusal) (key : Key) (why : Refusal) → found ≡ Ok key → P key → MatchResult found P (λ refusal. why ≡ refusal)
named P found key why e p = subst (λ (r : Result Key Refusal). MatchResult r P (λ refusal. why ≡ refusal)) (sym e) p

pub unnamed : (P : Key → Type 0) (found : Result Key Refusal) (why told : Refusal) → found ≡ Err why → told ≡ why → MatchResult found P (λ refusal. told ≡ refusal)
unnamed P found why told e same = subst (λ (r : Result Key Refusal). MatchResult r P (λ refusal. told ≡ refusal)) (sym e) same

-- a path names the same node in equal trees
pub seen_same : (s t : TreeLog) (path : List ℕ) (found : Result Key Refusal) → s ≡ t → found ≡ seen s.tree s.root path → seen t.tree t.root path ≡ found
seen_same s t path found same h = subst (λ (l : TreeLog). seen l.tree l.root path ≡ found) same (sym h)

-- if nothing else was wrong, there was no next key
no_next : (next : Option Key) (why : Refusal) → first_cause (None ∷ unless (is_some next) NoSpace ∷ []) ≡ Some why → why ≡ NoSpace
no_next None why e = cc
no_next (Some key) why e = absurd (none-some why e)

next_cause : (fault : Option Refusal) (next : Option Key) (why : Refusal) → fault ≡ None → Refuses (first_cause (fault ∷ unless (is_some next) NoSpace ∷ [])) why → (why ≡ NoSpace) ⊎ (why ≡ NoMemory)
next_cause fault next why e h = go (subst (λ (f : Option Refusal). Refuses (first_cause (f ∷ unless (is_some next) NoSpace ∷ [])) why) e h)
  where
    go : Refuses (first_cause (None ∷ unless (is_some next) NoSpace ∷ [])) why → (why ≡ NoSpace) ⊎ (why ≡ NoMemory)
    go (inl c) = inl (no_next next why c)
    go (inr m) = inr m.1

-- why no node was created
pub stand_cause : (old new : Locked) (name : List ℕ) (node : Node) (why : Refusal) → CreateRefused old new old.state.root name node why → StandCause name node why old.state.tree old.state.root
stand_cause old new name node why h = elim h [
  | inl f ↦ inl f.0
  | inr s ↦ inr (s.0, next_cause (create_fault old.state.tree old.state.root old.state.root name node) s.1.0 why s.0 s.1.2.named)
]

pin_refusal : (m : MasterView) (slot : ℕ) (why : Refusal) (m' : MasterView) → PinRefused m slot why m' → HoldsRefusal why
pin_refusal m slot TooManyHolds m' h = inl refl
pin_refusal m slot NoMemory m' h = inr refl
pin_refusal m slot NoEntry m' h = absurd h
pin_refusal m slot Access m' h = absurd h
pin_refusal m slot Busy m' h = absurd h
pin_refusal m slot Exists m' h = absurd h
pin_refusal m slot NoDevice m' h = absurd h
pin_refusal m slot NotDir m' h = absurd h
pin_refusal m slot IsDir m' h = absurd h
pin_refusal m slot Invalid m' h = absurd h
pin_refusal m slot NoSpace m' h = absurd h
pin_refusal m slot NameTooLong m' h = absurd h

-- why there was no hold of the node
pub hold_cause : (old new : Locked) (key : Key) (why : Refusal) → HoldRefused old new key why → HoldCause old.state.tree key why
hold_cause old new key why h = go (is_linked old.state.tree key) h
  where
    go : (b : Bool) → MatchBool b (PinRefused old.master.view key.slot why new.master.view) ((why ≡ NoEntry) × (new ≡ old)) → MatchBool b (HoldsRefusal why) (why ≡ NoEntry)
    go true p = pin_refusal old.master.view key.slot why new.master.view p
    go false p = p.0

-- why a move was refused, in a tree that is the same as before
pub move_refused : (old mid new : Locked) (key dir : Key) (away : List ℕ) (why : Refusal) → mid.state ≡ old.state → dir ≡ mid.state.root → IsRefused mid.state new.state (move_cause mid key dir away) why
    → Refuses (rename_cause old.state.tree old.state.root key old.state.root away) why
move_refused old mid new key dir away why same is h =
    let r : Refuses (rename_cause mid.state.tree mid.state.root key mid.state.root away) why = subst (λ (d : Key). Refuses (rename_cause mid.state.tree mid.state.root key d away) why) is h.named in
    subst (λ (s : TreeLog). Refuses (rename_cause s.tree s.root key s.root away) why) same r

-- the node that a path names did not give way
pub not_given : (t : Tree) (root key : Key) (path name : List ℕ) (why : Refusal) → seen t root path ≡ Ok key → IsPlain t key → GiveWayCause t root key name why → SwapCause path name why t root
not_given t root key path name why e plain cause = named (λ (k : Key). (IsHot t k × (why ≡ Busy)) ⊎ (IsPlain t k × GiveWayCause t root k name why)) (seen t root path) key why e (inr (plain, cause))

-- the node has moved away, but no other node was created
pub not_stood : (old away : Locked) (path leaving name : List ℕ) (key : Key) (why : Refusal) → WasMovedAway old away path key leaving → StandCause name value_node why away.state.tree away.state.root
    → SwapCause path name why old.state.tree old.state.root
not_stood old away path leaving name key why m h =
    let at : StandCause name value_node why away.state.tree old.state.root = subst (λ (root : Key). StandCause name value_node why away.state.tree root) m.root h in
    let c : StandCause name value_node why (moved_tree old.state.tree old.state.root key leaving) old.state.root = subst (λ (t : Tree). StandCause name value_node why t old.state.root) m.tree at in
    not_given old.state.tree old.state.root key path name why m.named m.plain (inr (leaving, m.leaving, inr c))

-- the node is not hot, or it is hot
pub plain_at : (s t : TreeLog) (key : Key) (answer : Bool) → s ≡ t → (IsTrue answer ↔ IsHot s.tree key) → answer ≡ false → IsPlain t.tree key
plain_at s t key answer same h e = subst (λ (l : TreeLog). IsPlain l.tree key) same (λ (hot : IsHot s.tree key). false≢true (sym e ∙ h.1 hot))

pub hot_at : (s t : TreeLog) (key : Key) (answer : Bool) → s ≡ t → (IsTrue answer ↔ IsHot s.tree key) → answer ≡ true → IsHot t.tree key
hot_at s t key answer same h e = subst (λ (l : TreeLog). IsHot l.tree key) same (h.0 e)

-- the path named the node of a hold that was taken
pub was_named : (table : TableId) (s : Locked) (path : List ℕ) (key : Key) (by hold : Handle) → IsWhole table s → IsTaken (history s) → history_of by.seen ≡ history s → seen s.state.tree s.state.root path ≡ Ok key
    → IsHoldOfNode table s.state.tree key hold → WasNamed path by hold
was_named table s path key by hold whole taken known named h = record {
  found = history s;
  root = s.state.root;
  at = record { slots = length s.state.tree; began = whole.told.began; taken = taken; known = known };
  named = subst (λ (t : Tree). seen t s.state.root path ≡ Ok hold.key) (tree_told s.state s.claims (history s) whole.told) (named ∙ ap Ok (sym h.key_is));
  node = subst (λ (t : Tree). option_map (λ r. r.node) (record_at t hold.key) ≡ Some hold.node) (tree_told s.state s.claims (history s) whole.told)
      (subst (λ (k : Key). option_map (λ r. r.node) (record_at s.state.tree k) ≡ Some hold.node) (sym h.key_is) h.node);
}
