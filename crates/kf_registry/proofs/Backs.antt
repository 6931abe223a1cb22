-- What the last receipt of a removal says about a value that is returned.
use Rattle.std.proofs.Common.{◌≡◌, ◌∙◌, true, false, cond, refl, List, [], ◌∷◌, ◌++◌, length, sym, ap, subst}
use Rattle.std.specs.Prelude.{ℕ, not, Ok}
use Rattle.std.proofs.lemmas.List.{append-nil, append_assoc, map-append, same_from_push}
use Rattle.kf_core.specs.declared.caller.Phase.TheVariants.{Parted}
use Rattle.kf_core.specs.declared.command.Command.TheVariants.{Doom, Rename}
use Rattle.kf_core.specs.declared.key.Key.{Key}
use Rattle.kf_core.specs.declared.key.Node.{Node}
use Rattle.kf_core.specs.Commands.{after}
use Rattle.kf_core.specs.Tree.{Tree}
use Rattle.kf_table.specs.Children.{is_there_already}
use Rattle.kf_tree.specs.Paths.{seen}
use Rattle.kf_tree.specs.TreeLogs.{TreeLog, IsAccepted}
use Rattle.kf_words.specs.Callers.{Handle, TableId}
use Rattle.kf_words.specs.Nodes.{MasterState}
use Rattle.kf_words.specs.Notes.{history_of}
use Rattle.kf_words.specs.declared.note.Note.{Note}
use Rattle.kf_words.specs.declared.note.Note.TheVariants.{Did}
use Rattle.kf_shared.specs.Locked.{Adds, IsWhole, Locked, history, move_cause}
use Rattle.kf_shared.specs.Noted.{tree_in}
use Rattle.kf_shared.specs.Receipts.{owners_of}
use Rattle.kf_shared.specs.Removal.{keys_of}
use Rattle.kf_shared.specs.Sections.{AllEnded, IsTaken, Last, SawItsRemoval, WasEnded, note_where}
use Rattle.kf_shared.proofs.Notes.{tree_told}
use Rattle.kf_shared.proofs.Removed.{keys_ended, saw_removal}
use Rattle.kf_registry.specs.Names.{name_in}
use Rattle.kf_registry.specs.Receipts.{Exchanged, IsLeaving, IsPlain, NamedLive, WasMovedAway, WasPublished, WasRemovedAfter, WasSwapped, WasTaken, moved_tree, moves_away, stands, swap_notes, value_node}

pub the_last : {Such : Handle → Type 0} (handles front : List Handle) (last : Handle) → handles ≡ front ++ last ∷ [] → Last Such handles → Such last
the_last {Such} handles front last e l = subst Such ((same_from_push l.0 front l.1 last (sym l.2 ∙ e)).1) l.3

keys_push : (front : List Handle) (last : Handle) → keys_of (front ++ last ∷ []) ≡ keys_of front ++ last.key ∷ []
keys_push front last = map-append (λ (h : Handle). h.key) front (last ∷ [])

-- if the last hold of a removal is of this key, so is its last receipt
pub last_key : (removing receipts front : List Handle) (last : Handle) (key : Key) → keys_of receipts ≡ keys_of removing → Last (λ (h : Handle). h.key ≡ key) removing → receipts ≡ front ++ last ∷ [] → last.key ≡ key
last_key removing receipts front last key same l e =
    (same_from_push (keys_of front) (keys_of l.0) last.key l.1.key
    (sym (keys_push front last) ∙ ap keys_of (sym e) ∙ same ∙ ap keys_of l.2 ∙ keys_push l.0 l.1)).1 ∙ l.3

-- the keys of the receipts are those of the removal
pub keys_back : (old : Locked) (removing ended receipts : List Handle) → WasEnded old removing ended → keys_of receipts ≡ keys_of ended → keys_of receipts ≡ keys_of removing
keys_back old removing ended receipts e same = same ∙ keys_ended old removing ended e

-- what the last receipt saw, if only the doom of its node was noted before the unlinks and the unlock
pub saw_back : (mid old : Locked) (key : Key) (removing ended receipts front : List Handle) (last : Handle) → Adds mid old (Did (Doom key)) → Last (λ (h : Handle). h.key ≡ key) removing
    → WasEnded old removing ended → AllEnded ended receipts → owners_of receipts ≡ owners_of ended → receipts ≡ front ++ last ∷ [] → last.key ≡ key → WasRemovedAfter (history mid) last
saw_back mid old key removing ended receipts front last noted l e finished owners is same =
    let s = the_last receipts front last is (saw_removal mid old key removing ended receipts noted l e finished owners) in
    subst (λ (k : Key). (keys : List Key) × SawItsRemoval (history mid) k keys last) (sym same) (keys_of receipts, s)

named_live : (Such : Tree → Key → Type 0) (table : TableId) (s : Locked) (path : List ℕ) (key : Key) → IsWhole table s → IsTaken (history s) → seen s.state.tree s.state.root path ≡ Ok key → Such s.state.tree key
    → NamedLive Such path key s.state.root (history s)
named_live Such table s path key whole taken named such = record {
  slots = length s.state.tree;
  began = whole.told.began;
  taken = taken;
  named = subst (λ (t : Tree). seen t s.state.root path ≡ Ok key) (tree_told s.state s.claims (history s) whole.told) named;
  such = subst (λ (t : Tree). Such t key) (tree_told s.state s.claims (history s) whole.told) such;
}

pub was_taken : (Such : Tree → Key → Type 0) (table : TableId) (s : Locked) (path : List ℕ) (key : Key) (receipt : Handle) → IsWhole table s → IsTaken (history s) → seen s.state.tree s.state.root path ≡ Ok key → Such s.state.tree key
    → receipt.key ≡ key → receipt.phase ≡ Parted → WasRemovedAfter (history s) receipt → WasTaken Such path receipt
was_taken Such table s path key receipt whole taken named such same parted saw = record {
  found = history s;
  root = s.state.root;
  at = subst (λ (k : Key). NamedLive Such path k s.state.root (history s)) (sym same) (named_live Such table s path key whole taken named such);
  parted = parted;
  saw = saw;
}

pub was_swapped : (table : TableId) (old new : Locked) (path name : List ℕ) (key : Key) (receipt : Handle) → IsWhole table old → IsTaken (history old) → seen old.state.tree old.state.root path ≡ Ok key → IsPlain old.state.tree key
    → name_in path ≡ Ok name → Exchanged old new key name → receipt.key ≡ key → receipt.phase ≡ Parted → ((mid : Locked) → Adds mid new (Did (Doom key)) → WasRemovedAfter (history mid) receipt) → WasSwapped path receipt
was_swapped table old new path name key receipt whole taken named plain is e same parted saw = record {
  found = history old;
  root = old.state.root;
  at = subst (λ (k : Key). NamedLive IsPlain path k old.state.root (history old)) (sym same) (named_live IsPlain table old path key whole taken named plain);
  parted = parted;
  away = e.1.0;
  leaving = e.1.1;
  new = e.1.2;
  name = name;
  name_is = is;
  saw = subst (λ (l : List Note). WasRemovedAfter l receipt)
      (e.1.3
      ∙ ap (λ (t : Tree). history old ++ swap_notes t old.state.root key e.1.0 e.1.2 name) (tree_told old.state old.claims (history old) whole.told)
      ∙ ap (λ (k : Key). history old ++ swap_notes (tree_in (history old)) old.state.root k e.1.0 e.1.2 name) (sym same))
      (saw e.0 e.2);
}

-- if the note that came next is the creation of the node, the node was published
pub was_published : (table : TableId) (old new : Locked) (node : Node) (path name : List ℕ) (key : Key) (by : Handle) → IsWhole table old → IsTaken (history old) → name_in path ≡ Ok name
    → Adds old new (stands node old.state.root key name) → history_of by.seen ≡ history new → WasPublished node path key by
was_published table old new node path name key by whole taken is added known = record {
  found = history old;
  slots = length old.state.tree;
  root = old.state.root;
  began = whole.told.began;
  taken = taken;
  name = name;
  name_is = is;
  known = known ∙ added;
}

-- under the lock, nothing was noted before the node was moved to another name in the root
pub moved_away : (old mid new : Locked) (path away : List ℕ) (key : Key) → seen old.state.tree old.state.root path ≡ Ok key → IsPlain old.state.tree key → IsLeaving away → mid.state ≡ old.state → history mid ≡ history old
    → (is_there_already mid.state.tree key mid.state.root away ≡ true → new.state ≡ mid.state)
    → (is_there_already mid.state.tree key mid.state.root away ≡ false → IsAccepted mid.state new.state (move_cause mid key mid.state.root away) (Rename key mid.state.root away))
    → (is_there_already mid.state.tree key mid.state.root away ≡ false → Adds mid new (Did (Rename key mid.state.root away))) → (is_there_already mid.state.tree key mid.state.root away ≡ true → new.master ≡ mid.master)
    → WasMovedAway old new path key away
moved_away old mid new path away key named plain leaving same known stays accepted noted unnoted =
    let r : new.state.root ≡ mid.state.root = elim (is_there_already mid.state.tree key mid.state.root away) as (λ v. is_there_already mid.state.tree key mid.state.root away ≡ v → new.state.root ≡ mid.state.root) [
      | true ↦ λ e. ap (λ (s : TreeLog). s.root) (stays e)
      | false ↦ λ e. (accepted e).same_root
    ] refl in
    let t : new.state.tree ≡ moved_tree mid.state.tree mid.state.root key away = elim (is_there_already mid.state.tree key mid.state.root away) as (λ v. is_there_already mid.state.tree key mid.state.root away ≡ v
    → new.state.tree ≡ cond v mid.state.tree (after mid.state.tree (Rename key mid.state.root away))) [
      | true ↦ λ e. ap (λ (s : TreeLog). s.tree) (stays e)
      | false ↦ λ e. (accepted e).changed
    ] refl in
    let h : history new ≡ history mid ++ moves_away mid.state.tree mid.state.root key away = elim (is_there_already mid.state.tree key mid.state.root away) as (λ v. is_there_already mid.state.tree key mid.state.root away ≡ v → history new ≡ history mid ++ note_where (not v) (Did (Rename key mid.state.root away))) [
      | true ↦ λ e. ap (λ (m : MasterState). history_of m.seen) (unnoted e) ∙ sym (append-nil (history mid))
      | false ↦ noted
    ] refl in record {
      named = named;
      plain = plain;
      leaving = leaving;
      root = r ∙ ap (λ (s : TreeLog). s.root) same;
      tree = subst (λ (s : TreeLog). new.state.tree ≡ moved_tree s.tree s.root key away) same t;
      noted = subst (λ (s : TreeLog). history new ≡ history old ++ moves_away s.tree s.root key away) same (subst (λ (l : List Note). history new ≡ l ++ moves_away mid.state.tree mid.state.root key away) known h);
    }

-- the node was moved away, then a node was created under the name, and then the former node was doomed
pub exchanged : (old away stood new : Locked) (path leaving name : List ℕ) (key made : Key) → WasMovedAway old away path key leaving → Adds away stood (stands value_node away.state.root made name) → Adds stood new (Did (Doom key))
    → Exchanged old new key name
exchanged old away stood new path leaving name key made m a d = (
  stood,
  (
    leaving,
    m.leaving,
    made,
    a ∙ ap (λ (r : Key). history away ++ stands value_node r made name ∷ []) m.root ∙ ap (λ (l : List Note). l ++ stands value_node old.state.root made name ∷ []) m.noted
        ∙ append_assoc (history old) (moves_away old.state.tree old.state.root key leaving) (stands value_node old.state.root made name ∷ []),
  ),
  d,
)
