-- What a name leads to in a lawful tree is linked, and is not the root.
use Rattle.std.proofs.Common.{◌≡◌, ◌≢◌, ℕ, subst, zero, suc, refl, ap, sym, ◌∙◌, cond, true, false, List, [], ◌∷◌}
use Rattle.std.specs.Prelude.{Bool, ◌&&◌, Option, None, Some, Result, Ok, Err, slice_get, is_some, if◌then◌else◌}
use Rattle.std.specs.List.{find as first}
use Rattle.std.specs.Option.{option_and_then, option_map_or}
use Rattle.std.specs.Str.{bytes_eq}
use Rattle.std.proofs.lemmas.Option.{none-some}
use Rattle.kf_core.specs.declared.key.Key.{Key}
use Rattle.kf_core.specs.declared.records.Record.{Record}
use Rattle.kf_core.specs.declared.refusal.Refusal.{Refusal}
use Rattle.kf_core.specs.declared.refusal.Refusal.TheVariants.{NoEntry, NotDir}
use Rattle.kf_core.specs.Lawful.{Lawful, root_record}
use Rattle.kf_core.specs.Tree.{Tree, IsIn, is_dir, is_linked, record_at}
use Rattle.kf_core.proofs.FoundRecords.{in_found}
use Rattle.kf_tree.specs.Paths.{and_then, entry_key, found, walked}
use Rattle.kf_table.specs.Children.{child, is_key, is_under}
use Rattle.kf_tree.specs.TreeLogs.{TreeLog, IsKept}
use Rattle.kf_device.specs.Removals.{entry_at}

-- the first item of a list that passes is at some place of the list
first_place : {X : Type 0} (p : X → Bool) (xs : List X) (y : X) → first p xs ≡ Some y → (i : ℕ) × (slice_get xs i ≡ Some y)
first_place p [] y h = absurd (none-some y h)
first_place p (x ∷ xs) y h = elim (p x) as (λ b. p x ≡ b → cond b (Some x) (first p xs) ≡ Some y → (i : ℕ) × (slice_get (x ∷ xs) i ≡ Some y)) [
  | true ↦ λ e g. (zero, g)
  | false ↦ λ e g. (let r = first_place p xs y g in (suc r.0, r.1))
] refl h

-- the first item of a list that passes does pass
first_passes : {X : Type 0} (p : X → Bool) (xs : List X) (y : X) → first p xs ≡ Some y → p y ≡ true
first_passes p [] y h = absurd (none-some y h)
first_passes p (x ∷ xs) y h = elim (p x) as (λ b. p x ≡ b → cond b (Some x) (first p xs) ≡ Some y → p y ≡ true) [
  | true ↦ λ e g. sym (ap (λ o. option_map_or p o false) g) ∙ e
  | false ↦ λ e g. first_passes p xs y g
] refl h

-- a child has a parent
child_below : (t : Tree) (dir : Key) (name : List ℕ) (r : Record) → child t dir name ≡ Some r → r.parent ≢ None
child_below t dir name r h top = elim (first (is_under dir (λ (r : Record). bytes_eq r.name name)) t) as (λ o. first (is_under dir (λ (r : Record). bytes_eq r.name name)) t ≡ o → option_and_then (λ place. place) o ≡ Some r → ⊥) [
  | None ↦ λ e g. none-some r g
  | Some place ↦ λ e g. (let f = first_passes (is_under dir (λ (r : Record). bytes_eq r.name name)) t place e in
      let yes : is_under dir (λ (r : Record). bytes_eq r.name name) (Some r) ≡ true = subst (λ x. is_under dir (λ (r : Record). bytes_eq r.name name) x ≡ true) g f in
      let no : is_under dir (λ (r : Record). bytes_eq r.name name) (Some r) ≡ false = ap (λ q. is_key dir q && bytes_eq r.name name) top in
      let both : true ≡ false = sym yes ∙ no in absurd cc)
] refl h

-- a child is a record of the tree
child_in : (t : Tree) (root dir : Key) (name : List ℕ) (r : Record) → Lawful t root → child t dir name ≡ Some r → IsIn t r
child_in t root dir name r l h = elim (first (is_under dir (λ (r : Record). bytes_eq r.name name)) t) as (λ o. first (is_under dir (λ (r : Record). bytes_eq r.name name)) t ≡ o → option_and_then (λ place. place) o ≡ Some r → IsIn t r) [
  | None ↦ λ e g. absurd (none-some r g)
  | Some place ↦ λ e g. (let f = first_place (is_under dir (λ (r : Record). bytes_eq r.name name)) t place e in
      let at : slice_get t f.0 ≡ Some (Some r) = f.1 ∙ ap Some g in
      ap (slice_get t) (l.in_place f.0 r at) ∙ at)
] refl h

-- the key that an entry gives is that of the child
entry_is : (dir entry : Option Record) (key : Key) → entry_key dir entry ≡ Ok key → (r : Record) × (entry ≡ Some r) × (r.key ≡ key)
entry_is None entry key h = absurd cc
entry_is (Some dir) None key h = elim (is_dir dir.node) as (λ b. (if b then Err NoEntry else Err NotDir) ≡ Ok key → (r : Record) × (None ≡ Some r) × (r.key ≡ key)) [
  | true ↦ λ e. absurd cc
  | false ↦ λ e. absurd cc
] h
entry_is (Some dir) (Some r) key h = elim (is_dir dir.node) as (λ b. (if b then Ok r.key else Err NotDir) ≡ Ok key → (s : Record) × (Some r ≡ Some s) × (s.key ≡ key)) [
  | true ↦ λ e. (r, refl, cc)
  | false ↦ λ e. absurd cc
] h

-- what a name leads to in a directory is linked
found_linked : (t : Tree) (root dir key : Key) (name : List ℕ) → Lawful t root → found t dir name ≡ Ok key → is_linked t key ≡ true
found_linked t root dir key name l h =
    let e = entry_is (record_at t dir) (child t dir name) key h in
    let i : record_at t e.0.key ≡ Some e.0 = in_found t e.0 (child_in t root dir name e.0 l e.1) in
    ap is_some (ap (record_at t) (sym e.2) ∙ i)

-- what a name leads to in a directory that a walk led to is linked
entry_linked : (t : Tree) (root key : Key) (at : Result Key Refusal) (name : List ℕ) → Lawful t root → and_then at (λ dir. found t dir name) ≡ Ok key → is_linked t key ≡ true
entry_linked t root key (Ok dir) name l h = found_linked t root dir key name l h
entry_linked t root key (Err refusal) name l h = absurd cc

-- a record in the root's slot is the root, so a child has another slot
child_slot : (t : Tree) (root dir : Key) (name : List ℕ) (r : Record) → Lawful t root → child t dir name ≡ Some r → r.key.slot ≢ root.slot
child_slot t root dir name r l h same =
    let i : slice_get t r.key.slot ≡ Some (Some r) = child_in t root dir name r l h in
    let both : Some (Some r) ≡ Some (Some (root_record root)) = sym i ∙ ap (slice_get t) same ∙ l.rooted in
    child_below t dir name r h (ap (λ (o : Option (Option Record)). option_and_then (λ (x : Record). x.parent) (option_and_then (λ place. place) o)) both)

found_slot : (t : Tree) (root dir key : Key) (name : List ℕ) → Lawful t root → found t dir name ≡ Ok key → key.slot ≢ root.slot
found_slot t root dir key name l h same =
    let e = entry_is (record_at t dir) (child t dir name) key h in
    child_slot t root dir name e.0 l e.1 (ap (λ (k : Key). k.slot) e.2 ∙ same)

entry_slot : (t : Tree) (root key : Key) (at : Result Key Refusal) (name : List ℕ) → Lawful t root → and_then at (λ dir. found t dir name) ≡ Ok key → key.slot ≢ root.slot
entry_slot t root key (Ok dir) name l h = found_slot t root dir key name l h
entry_slot t root key (Err refusal) name l h = absurd cc

-- what the name leads to in the directory of a path does not have the root's slot
pub there_slot : (s : TreeLog) (path name : List ℕ) (key : Key) → IsKept s → s.root.slot ≡ 0 → entry_at s path name ≡ Ok key → key.slot ≢ 0
there_slot s path name key kept root h zero_slot = entry_slot s.tree s.root key (walked s.tree s.root path) name kept.lawful h (zero_slot ∙ sym root)

-- what the name leads to in the directory of a path is linked
pub there_linked : (s : TreeLog) (path name : List ℕ) (key : Key) → IsKept s → entry_at s path name ≡ Ok key → is_linked s.tree key ≡ true
there_linked s path name key kept h = entry_linked s.tree s.root key (walked s.tree s.root path) name kept.lawful h
