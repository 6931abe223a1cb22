-- In a lawful tree a name never leads to the root, so a removal by name is never refused because the node is
-- the root.
use Rattle.std.proofs.Common.{◌≡◌, ◌≢◌, ◌⊎◌, inl, inr, refl, ap, sym, ◌∙◌, ℕ, Bool, true, false, List, [], ◌∷◌}
use Rattle.std.specs.Prelude.{Option, None, Some, Result, Ok, Err, not, slice_get, if◌then◌else◌}
use Rattle.std.specs.Option.{option_and_then, ok_or}
use Rattle.std.proofs.lemmas.Option.{none-some, same_Some}
use Rattle.kf_core.specs.declared.key.Key.{Key}
use Rattle.kf_core.specs.declared.records.Record.{Record}
use Rattle.kf_core.specs.declared.refusal.Refusal.{Refusal}
use Rattle.kf_core.specs.declared.refusal.Refusal.TheVariants.{NoEntry, NotDir, Invalid}
use Rattle.kf_core.specs.Keys.{same_key}
use Rattle.kf_core.specs.Lawful.{Lawful, root_record}
use Rattle.kf_core.specs.Refusals.{first_cause, unless}
use Rattle.kf_core.specs.Tree.{Tree, IsIn, is_dir, is_linked, record_at}
use Rattle.kf_core.proofs.Climbs.{same_key_is}
use Rattle.kf_table.specs.Children.{child}
use Rattle.kf_tree.specs.Paths.{entry_key, found}
use Rattle.kf_tree.specs.TreeLogs.{TreeLog}
use Rattle.kf_words.specs.Callers.{TableId}
use Rattle.kf_shared.specs.Locked.{IsWhole, Locked}
use Rattle.kf_shared.specs.Receipts.{KeyRefused, NamedRefused}
use Rattle.kf_groups.specs.Removals.{NameRefusal}
use Rattle.kf_groups.proofs.Named.{found_stands}

-- a name does not lead to the root, since the root has no parent
below : (t : Tree) (root dir key : Key) (name : List ℕ) → Lawful t root → found t dir name ≡ Ok key → key ≢ root
below t root dir key name l h same =
    let s = found_stands t dir key name h in
    let i : IsIn t s.0.entry = ap (slice_get t) (l.in_place s.0.slot s.0.entry s.0.at) ∙ s.0.at in
    let both : Some (Some s.0.entry) ≡ Some (Some (root_record root)) = sym i ∙ ap (λ (k : Key). slice_get t k.slot) (s.1 ∙ same) ∙ l.rooted in
    let top : s.0.entry.parent ≡ None = ap (λ (o : Option (Option Record)). option_and_then (λ (x : Record). x.parent) (option_and_then (λ place. place) o)) both in
    none-some dir (sym top ∙ s.0.parent)

-- if the key is not the root's, its removal is refused only for one of the reasons of `NameRefusal`
key_refusal : (s : TreeLog) (key : Key) (why : Refusal) → key ≢ s.root → KeyRefused s key why → NameRefusal why
key_refusal s key why other (inr held) = inr (inr held.1)
key_refusal s key why other (inl cause) = go (is_linked s.tree key) (same_key key s.root) refl cause
  where
    go : (linked same : Bool) → same_key key s.root ≡ same → first_cause (unless linked NoEntry ∷ unless (not same) Invalid ∷ []) ≡ Some why → NameRefusal why
    go false same e c = inl (sym (same_Some NoEntry why c))
    go true true e c = absurd (other (same_key_is key s.root e))
    go true false e c = absurd (none-some why c)

-- the refusal in this result; NoEntry if there is none
abbrev told : Result Key Refusal → Refusal
told (Ok key) = NoEntry
told (Err refusal) = refusal

no_entry : (entry : Option Record) (why : Refusal) → ok_or (option_and_then (λ (r : Record). Some r.key) entry) NoEntry ≡ Err why → NoEntry ≡ why
no_entry None why h = ap told h
no_entry (Some r) why h = absurd (let never : Ok r.key ≡ Err why = h in cc)

-- if a name leads to no key, the refusal is NoEntry or NotDir
entry_fault : (dir entry : Option Record) (why : Refusal) → entry_key dir entry ≡ Err why → (why ≡ NoEntry) ⊎ (why ≡ NotDir)
entry_fault None entry why h = inl (sym (ap told h))
entry_fault (Some dir) entry why h = elim (is_dir dir.node) as (λ b. (if b then ok_or (option_and_then (λ (r : Record). Some r.key) entry) NoEntry else Err NotDir) ≡ Err why → (why ≡ NoEntry) ⊎ (why ≡ NotDir)) [
  | true ↦ λ e. inl (sym (no_entry entry why e))
  | false ↦ λ e. inr (sym (ap told e))
] h

fault_refusal : (fault why : Refusal) → fault ≡ why → (fault ≡ NoEntry) ⊎ (fault ≡ NotDir) → NameRefusal why
fault_refusal fault why same (inl e) = inl (sym same ∙ e)
fault_refusal fault why same (inr e) = inr (inl (sym same ∙ e))

-- if a removal by name is refused, it is for one of the reasons of `NameRefusal`
pub name_refusal : (table : TableId) (s : Locked) (dir : Key) (name : List ℕ) (why : Refusal) → IsWhole table s
    → NamedRefused s.state (found s.state.tree dir name) why → NameRefusal why
name_refusal table s dir name why whole h = go (found s.state.tree dir name) refl h
  where
    go : (place : Result Key Refusal) → found s.state.tree dir name ≡ place → NamedRefused s.state place why → NameRefusal why
    go (Ok key) e refused = key_refusal s.state key why (below s.state.tree s.state.root dir key name whole.kept.lawful e) refused
    go (Err fault) e refused = fault_refusal fault why refused (entry_fault (record_at s.state.tree dir) (child s.state.tree dir name) fault e)
