-- The indexes stay right when a record is added or removed.
use Rattle.std.proofs.Common.{◌≡◌, inl, inr, refl, ap, arith, sym, ◌∙◌, subst, true, List, slice_set, length-set}
use Rattle.std.specs.Prelude.{Option, None, Some, slice_get, is_some}
use Rattle.std.specs.Option.{option_and_then, option_map_or}
use Rattle.std.proofs.lemmas.Option.{none-some}
use Rattle.kf_core.specs.declared.key.Key.{Key}
use Rattle.kf_core.specs.declared.records.Record.{Record}
use Rattle.kf_core.specs.Tree.{Tree, IsIn, is_dir, record_at}
use Rattle.kf_core.specs.Lawful.{Lawful}
use Rattle.kf_table.specs.declared.directory.Directory.{Directory}
use Rattle.kf_table.specs.Directories.{is_subdir_in, with_entry, with_record, without_record, MayInsert, MayRemove, AreKept}
use Rattle.kf_core.proofs.FoundRecords.{linked_here}
use Rattle.kf_table.proofs.Altered.{record_in}
use Rattle.kf_table.proofs.Kept.{counted, count_written, in_none, stays, new_or_old, kept_with, kept_without, may_remove}
use Rattle.kf_table.proofs.FewNames.{few_names}
use Rattle.kf_table.proofs.Rooms.{few_subdirs, add_low, add_named, add_absent}

pub may_insert : (t : Tree) (ds : List Directory) → AreKept t ds → (r : Record) → slice_get t r.key.slot ≡ Some None
    → (root : Key) × Lawful (slice_set t r.key.slot (Some r)) root → MayInsert ds r
may_insert t ds kept r vacant after p parent =
    let low = add_low t ds kept r vacant after.0 after.1 p parent in
    record {
      within = rw kept.as_many low;
      lawful_name = add_named t ds kept r vacant after.0 after.1 p parent;
      absent = add_absent t ds kept r vacant after.0 after.1 p parent;
      few = few_subdirs t ds p.slot kept low;
      few_names = few_names t ds p.slot kept;
    }

-- a record without a parent has no entry, so the indexes stay right when it is added
kept_orphan : (t : Tree) (ds : List Directory) → AreKept t ds → (r : Record) → slice_get t r.key.slot ≡ Some None → r.parent ≡ None → AreKept (slice_set t r.key.slot (Some r)) ds
kept_orphan t ds kept r vacant orphan = record {
  as_many = kept.as_many ∙ sym (length-set t r.key.slot (Some r));
  few = rw (length-set t r.key.slot (Some r)) kept.few;
  entries = λ slot name key. (
    (λ h. let i = (kept.entries slot name key).0 h in record {
      child = i.child;
      is_in = stays t ds kept r vacant i.child i.is_in;
      has_key = i.has_key;
      dir = i.dir;
      parent = i.parent;
      in_slot = i.in_slot;
      named = i.named;
    }),
    (λ i. elim (new_or_old t ds kept r vacant i.child i.is_in) [
      | inl e ↦ absurd (none-some i.dir (sym orphan ∙ ap (λ (x : Record). x.parent) e ∙ i.parent))
      | inr old ↦ (kept.entries slot name key).1 (record {
        child = i.child;
        is_in = old;
        has_key = i.has_key;
        dir = i.dir;
        parent = i.parent;
        in_slot = i.in_slot;
        named = i.named;
      })
    ]),
  );
  counted = λ slot low.
      let w = count_written (is_subdir_in slot) t r.key.slot None (Some r) vacant in
      let none = ap counted (in_none slot r orphan) in
      let was = kept.counted slot (rw (length-set t r.key.slot (Some r)) at low) in
      was ∙ omega (arith, w, none);
}

pub kept_added : (t : Tree) (ds : List Directory) → AreKept t ds → (r : Record) → slice_get t r.key.slot ≡ Some None → MayInsert ds r → AreKept (slice_set t r.key.slot (Some r)) (with_record r ds)
kept_added t ds kept r vacant may = elim r.parent as (λ o. r.parent ≡ o → AreKept (slice_set t r.key.slot (Some r)) (option_map_or (λ (parent : Key). with_entry parent.slot r.name r.key (is_dir r.node) ds) o ds)) [
  | None ↦ λ e. kept_orphan t ds kept r vacant e
  | Some p ↦ λ e. let room = may p e in kept_with t ds kept r vacant p e room.within room.absent
] refl

-- ---- a record is removed

-- the record of a linked key, as it was seen in the key's slot
pub linked_seen : (t : Tree) (key : Key) (seen : Option Record) → is_some (record_at t key) ≡ true → seen ≡ record_in t key.slot
    → (r : Record) × IsIn t r × (r.key ≡ key) × (seen ≡ Some r)
linked_seen t key seen linked is =
    let h = linked_here t key linked in
    let there : slice_get t key.slot ≡ Some (Some h.0) = ap (λ (k : Key). slice_get t k.slot) (sym h.2) ∙ h.1 in
    (h.0, h.1, h.2, is ∙ ap (option_and_then (λ entry. entry)) there)

pub may_take : (t : Tree) (ds : List Directory) → AreKept t ds → (key : Key) (seen : Option Record) → is_some (record_at t key) ≡ true
    → seen ≡ record_in t key.slot → MayRemove ds seen
may_take t ds kept key seen linked is =
    let h = linked_seen t key seen linked is in
    subst (λ o. MayRemove ds o) (sym h.3) (may_remove t ds kept h.0 h.1)

pub kept_taken : (t : Tree) (ds : List Directory) → AreKept t ds → (key : Key) (seen : Option Record) → is_some (record_at t key) ≡ true
    → seen ≡ record_in t key.slot → AreKept (slice_set t key.slot None) (without_record seen ds)
kept_taken t ds kept key seen linked is =
    let h = linked_seen t key seen linked is in
    let at : AreKept (slice_set t key.slot None) (without_record (Some h.0) ds) =
    subst (λ (k : Key). AreKept (slice_set t k.slot None) (without_record (Some h.0) ds)) h.2 (kept_without t ds kept h.0 h.1) in
    subst (λ o. AreKept (slice_set t key.slot None) (without_record o ds)) (sym h.3) at
