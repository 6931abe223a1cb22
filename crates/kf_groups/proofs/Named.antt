-- What a name in a directory leads to.
use Rattle.std.proofs.Common.{◌≡◌, ℕ, suc, refl, ap, sym, ◌∙◌, Bool, true, false, cond, List, [], ◌∷◌}
use Rattle.std.specs.Prelude.{Option, None, Some, Ok, Err, slice_get, is_some, if◌then◌else◌}
use Rattle.std.specs.List.{find as first}
use Rattle.std.specs.Option.{option_and_then}
use Rattle.std.proofs.lemmas.Option.{none-some}
use Rattle.std.proofs.lemmas.Slice.Eq.{bytes_eq-Decides}
use Rattle.kf_core.specs.declared.key.Key.{Key}
use Rattle.kf_core.specs.declared.records.Record.{Record}
use Rattle.kf_core.specs.declared.refusal.Refusal.TheVariants.{NoEntry, NotDir}
use Rattle.kf_core.specs.Lawful.{Lawful}
use Rattle.kf_core.specs.Tree.{Tree, IsIn, is_dir, is_linked, record_at}
use Rattle.kf_core.proofs.FoundRecords.{linked_here, same_record}
use Rattle.kf_table.specs.Children.{child}
use Rattle.kf_table.proofs.ChildTests.{both, key_is}
use Rattle.kf_tree.specs.Causes.{has_entry}
use Rattle.kf_tree.specs.Paths.{entry_key, found}
use Rattle.kf_tree.proofs.Allowed.{name_free}
use Rattle.kf_groups.specs.Keeps.{Keeps}
use Rattle.kf_groups.proofs.Free.{passes, test}

pub place_of : {X : Type 0} (p : X → Bool) (xs : List X) (y : X) → first p xs ≡ Some y → (i : ℕ) × (slice_get xs i ≡ Some y)
place_of p [] y h = absurd (none-some y h)
place_of p (x ∷ xs) y h = elim (p x) as (λ b. cond b (Some x) (first p xs) ≡ Some y → (i : ℕ) × (slice_get (x ∷ xs) i ≡ Some y)) [
  | true ↦ λ e. (0, e)
  | false ↦ λ e. (let f = place_of p xs y e in (suc f.0, f.1))
] h

-- a record with this name in this directory, and its slot
pub record Stands (t : Tree) (dir : Key) (name : List ℕ) : Type 0 where
  pub entry : Record
  pub slot : ℕ
  pub at : slice_get t slot ≡ Some (Some entry)
  pub parent : entry.parent ≡ Some dir
  pub name_is : entry.name ≡ name

pub child_stands : (t : Tree) (dir : Key) (name : List ℕ) (r : Record) → child t dir name ≡ Some r → (s : Stands t dir name) × (s.entry ≡ r)
child_stands t dir name r h = go (first (test dir name) t) refl h
  where
    go : (o : Option (Option Record)) → first (test dir name) t ≡ o → option_and_then (λ (slot : Option Record). slot) o ≡ Some r → (s : Stands t dir name) × (s.entry ≡ r)
    go None e g = absurd (none-some r g)
    go (Some place) e g =
        let full : first (test dir name) t ≡ Some (Some r) = e ∙ ap Some g in
        let p = place_of (test dir name) t (Some r) full in
        let b = both _ _ (passes (test dir name) t (Some r) full) in (
          record {
            entry = r;
            slot = p.0;
            at = p.1;
            parent = key_is dir r.parent b.0;
            name_is = (bytes_eq-Decides r.name name).0 b.1;
          },
          refl,
        )

-- if the directory has an entry with this name, some record has this name there
pub entry_stands : (t : Tree) (dir : Key) (name : List ℕ) → has_entry t dir name ≡ true → Stands t dir name
entry_stands t dir name h = go (child t dir name) refl h
  where
    go : (o : Option Record) → child t dir name ≡ o → is_some o ≡ true → Stands t dir name
    go None e g = absurd (let x : false ≡ true = g in cc)
    go (Some r) e g = (child_stands t dir name r e).0

entry_is : (dir entry : Option Record) (key : Key) → entry_key dir entry ≡ Ok key → (r : Record) × (entry ≡ Some r) × (r.key ≡ key)
entry_is None entry key h = absurd cc
entry_is (Some dir) None key h = elim (is_dir dir.node) as (λ b. (if b then Err NoEntry else Err NotDir) ≡ Ok key → (r : Record) × (None ≡ Some r) × (r.key ≡ key)) [
  | true ↦ λ e. absurd cc
  | false ↦ λ e. absurd cc
] h
entry_is (Some dir) (Some r) key h = elim (is_dir dir.node) as (λ b. (if b then Ok r.key else Err NotDir) ≡ Ok key → (s : Record) × (Some r ≡ Some s) × (s.key ≡ key)) [
  | true ↦ λ e. (r, refl, cc)
  | false ↦ λ e. absurd cc
] h

pub found_stands : (t : Tree) (dir key : Key) (name : List ℕ) → found t dir name ≡ Ok key → (s : Stands t dir name) × (s.entry.key ≡ key)
found_stands t dir key name h =
    let e = entry_is (record_at t dir) (child t dir name) key h in
    let s = child_stands t dir name e.0 e.1 in (s.0, ap (λ (r : Record). r.key) s.1 ∙ e.2)

-- if the older tree has no entry with this name, the name leads to a node that is not linked in that tree
pub found_younger : (base t : Tree) (root dir key : Key) (name : List ℕ) → Lawful t root → Keeps base t → has_entry base dir name ≡ false
    → found t dir name ≡ Ok key → is_linked base key ≡ false
found_younger base t root dir key name l keeps none h = elim (is_linked base key) as (λ b. is_linked base key ≡ b → b ≡ false) [
  | true ↦ λ e. absurd (
      let old = linked_here base key e in
      let s = found_stands t dir key name h in
      let i : IsIn t s.0.entry = ap (slice_get t) (l.in_place s.0.slot s.0.entry s.0.at) ∙ s.0.at in
      let same : old.0 ≡ s.0.entry = same_record t old.0 s.0.entry (keeps old.0.key.slot old.0 old.1) i (old.2 ∙ sym s.1) in
      name_free base dir name none old.0 old.1 (ap (λ (r : Record). r.parent) same ∙ s.0.parent) (ap (λ (r : Record). r.name) same ∙ s.0.name_is))
  | false ↦ λ e. refl
] refl
