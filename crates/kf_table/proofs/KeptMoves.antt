-- What a move requires of the indexes, and what it does to them.
use Rattle.std.proofs.Common.{◌≡◌, inl, inr, ℕ, ◌+◌, refl, ap, arith, sym, ◌∙◌, subst, Bool, true, false, cond, List, length, slice_set, length-set, get_or}
use Rattle.std.specs.Prelude.{Option, None, Some, is_some}
use Rattle.std.specs.Option.{option_map_or}
use Rattle.std.proofs.lemmas.Option.{none-some}
use Rattle.std.proofs.lemmas.List.{set-set}
use Rattle.std.proofs.lemmas.Bool.Decides.{eqb_tells}
use Rattle.kf_core.specs.declared.key.Key.{Key}
use Rattle.kf_core.specs.declared.records.Record.{Record}
use Rattle.kf_core.specs.Tree.{Tree, IsIn, is_dir, record_at}
use Rattle.kf_core.specs.Lawful.{Lawful}
use Rattle.kf_core.specs.Commands.{moved_record}
use Rattle.kf_table.specs.declared.directory.Directory.{Directory}
use Rattle.kf_table.specs.Children.{is_there_already}
use Rattle.kf_table.specs.Changes.{with_changed_slot}
use Rattle.kf_table.specs.Directories.{empty_directory, with_child, with_entry, without_entry, without_record, HasRoomFor, MayRemove, entry_at, subdirs_at, AreKept}
use Rattle.kf_core.proofs.FoundRecords.{in_found}
use Rattle.kf_table.proofs.Altered.{record_in}
use Rattle.kf_table.proofs.Entries.{entered_counted, left_elsewhere, subdirs_elsewhere}
use Rattle.kf_table.proofs.Kept.{kept_with, kept_without, none_there, own_entry, dir_within, dir_counts}
use Rattle.kf_table.proofs.FewNames.{few_names}
use Rattle.kf_table.proofs.Rooms.{few_subdirs, move_is, move_low, move_named, move_absent}
use Rattle.kf_table.proofs.KeptRecords.{linked_seen}
use Rattle.kf_table.proofs.Swapped.{kept_along, swap_length, swap_entries, swap_counts}

-- what a move requires of the tree
pub record IsLawfulMove (t : Tree) (key dir : Key) (name : List ℕ) : Type 0 where
  pub linked : is_some (record_at t key) ≡ true
  pub lawful : (root : Key) × Lawful t root
  pub lawful_after : (root : Key) × Lawful (with_changed_slot (moved_record dir name) t key.slot) root
  pub elsewhere : is_there_already t key dir name ≡ false

module _ (t : Tree) (ds : List Directory) (kept : AreKept t ds) (key dir : Key) (name : List ℕ) (m : IsLawfulMove t key dir name) where
  module _ (r : Record) (is_in : IsIn t r) (has_key : r.key ≡ key) where
    known : record_at t key ≡ Some r
    known = ap (record_at t) (sym has_key) ∙ in_found t r is_in

    pub has_room : HasRoomFor ds dir.slot name
    has_room =
        let low = move_low t ds kept m.lawful.0 m.lawful.1 key dir name r known m.lawful_after.0 m.lawful_after.1 m.elsewhere in
        record {
          within = rw kept.as_many low;
          lawful_name = move_named t ds kept m.lawful.0 m.lawful.1 key dir name r known m.lawful_after.0 m.lawful_after.1 m.elsewhere;
          absent = move_absent t ds kept m.lawful.0 m.lawful.1 key dir name r known m.lawful_after.0 m.lawful_after.1 m.elsewhere;
          few = few_subdirs t ds dir.slot kept low;
          few_names = few_names t ds dir.slot kept;
        }

    abbrev with_new : List Directory
    with_new = with_entry dir.slot name key (is_dir r.node) ds

    -- the old name can still be removed
    pub may_leave_after : MayRemove with_new (Some r)
    may_leave_after p parent =
        let low = dir_within t ds kept r is_in p parent in (
          rw (length-set ds dir.slot (with_child name key (is_dir r.node) (get_or ds dir.slot empty_directory))) low,
          λ is_subdir. elim (eqb_tells p.slot dir.slot) [
            | inl e ↦ (let more = dir_counts t ds kept r is_in p parent is_subdir in
                let now : subdirs_at with_new p.slot ≡ cond (is_dir r.node) (subdirs_at ds p.slot + 1) (subdirs_at ds p.slot) =
                ap (subdirs_at with_new) e.1 ∙ entered_counted ds dir.slot has_room.within name key (is_dir r.node) ∙ ap (λ i. cond (is_dir r.node) (subdirs_at ds i + 1) (subdirs_at ds i)) (sym e.1) in
                let bigger : subdirs_at with_new p.slot ≡ subdirs_at ds p.slot + 1 = now ∙ ap (λ b. cond b (subdirs_at ds p.slot + 1) (subdirs_at ds p.slot)) is_subdir in
                omega (arith, bigger))
            | inr e ↦ (let more = dir_counts t ds kept r is_in p parent is_subdir in
                let same : subdirs_at with_new p.slot ≡ subdirs_at ds p.slot = subdirs_elsewhere ds dir.slot has_room.within (with_child name key (is_dir r.node) (get_or ds dir.slot empty_directory)) p.slot e.1 in
                rw same more)
          ],
        )

    abbrev moved : Record
    moved = moved_record dir name r

    abbrev cleared : Tree
    cleared = slice_set t r.key.slot None

    abbrev without_old : List Directory
    without_old = without_record (Some r) ds

    old_length : length without_old ≡ length ds
    old_length = elim r.parent as (λ o. length (without_entry o r.name (is_dir r.node) ds) ≡ length ds) [
      | None ↦ refl
      | Some p ↦ length-set ds p.slot _
    ]

    -- once the old name is removed, there is no entry of the new name
    absent_still : entry_at without_old dir.slot name ≡ None
    absent_still = elim r.parent as (λ o. r.parent ≡ o → entry_at (without_entry o r.name (is_dir r.node) ds) dir.slot name ≡ None) [
      | None ↦ λ e. has_room.absent
      | Some p ↦ λ e. left_elsewhere ds p.slot (dir_within t ds kept r is_in p e) r.name (is_dir r.node) dir.slot name (apart p e) ∙ has_room.absent
    ] refl
      where
        apart : (p : Key) → r.parent ≡ Some p → ¬ ((dir.slot ≡ p.slot) × (name ≡ r.name))
        apart p e both = none-some r.key (sym has_room.absent ∙ ap (λ i. entry_at ds i name) both.0 ∙ ap (entry_at ds p.slot) both.1 ∙ own_entry t ds kept r is_in p e)

    kept_put : AreKept (slice_set cleared r.key.slot (Some moved)) (with_entry dir.slot name r.key (is_dir r.node) without_old)
    kept_put = kept_with cleared without_old (kept_without t ds kept r is_in) moved (none_there t ds kept r is_in) dir refl (rw old_length has_room.within) absent_still

    same_tree : slice_set cleared r.key.slot (Some moved) ≡ with_changed_slot (moved_record dir name) t key.slot
    same_tree = set-set t r.key.slot None (Some moved) ∙ ap (λ (k : Key). slice_set t k.slot (Some moved)) has_key
        ∙ sym (move_is t ds kept m.lawful.0 m.lawful.1 key dir name r known m.lawful_after.0 m.lawful_after.1 m.elsewhere)

    kept_after : AreKept (with_changed_slot (moved_record dir name) t key.slot) (with_entry dir.slot name key (is_dir r.node) without_old)
    kept_after = subst (λ (k : Key). AreKept (with_changed_slot (moved_record dir name) t key.slot) (with_entry dir.slot name k (is_dir r.node) without_old)) has_key
        (subst (λ (x : Tree). AreKept x (with_entry dir.slot name r.key (is_dir r.node) without_old)) same_tree kept_put)

    pub kept_moved : AreKept (with_changed_slot (moved_record dir name) t key.slot) (without_record (Some r) with_new)
    kept_moved = elim r.parent as (λ o. r.parent ≡ o → AreKept (with_changed_slot (moved_record dir name) t key.slot) (with_entry dir.slot name key (is_dir r.node) (without_entry o r.name (is_dir r.node) ds))
        → AreKept (with_changed_slot (moved_record dir name) t key.slot) (without_entry o r.name (is_dir r.node) with_new)) [
          | None ↦ λ e k. k
          | Some p ↦ λ e k.
              let low = has_room.within in
              let p_low = dir_within t ds kept r is_in p e in
              let differ : dir.slot ≡ p.slot → name ≡ r.name → ⊥ = λ s n. none-some r.key (sym has_room.absent ∙ ap (λ i. entry_at ds i name) s ∙ ap (entry_at ds p.slot) n ∙ own_entry t ds kept r is_in p e) in
              let counts = dir_counts t ds kept r is_in p e in
              kept_along _ _ _ k
              (swap_length ds dir.slot name key (is_dir r.node) p r.name low p_low differ counts)
              (swap_entries ds dir.slot name key (is_dir r.node) p r.name low p_low differ counts)
              (swap_counts ds dir.slot name key (is_dir r.node) p r.name low p_low differ counts)
        ] refl kept_after

  -- the same from what the code has seen in the record's slot
  pub may_move_out : (b : Bool) (entered : List Directory) (seen : Option Record) → b ≡ option_map_or (λ (r : Record). is_dir r.node) (record_at t key) false
      → entered ≡ with_entry dir.slot name key b ds → seen ≡ record_in t key.slot → MayRemove entered seen
  may_move_out b entered seen tells is read =
      let h = linked_seen t key seen m.linked read in
      let b_is : b ≡ is_dir h.0.node = tells ∙ ap (λ o. option_map_or (λ (r : Record). is_dir r.node) o false) (known h.0 h.1 h.2) in
      subst (λ (o : Option Record). MayRemove entered o) (sym h.3)
      (subst (λ (es : List Directory). MayRemove es (Some h.0)) (sym (is ∙ ap (λ v. with_entry dir.slot name key v ds) b_is)) (may_leave_after h.0 h.1 h.2))

  pub kept_by_move : (b : Bool) (entered : List Directory) (seen : Option Record) → b ≡ option_map_or (λ (r : Record). is_dir r.node) (record_at t key) false
      → entered ≡ with_entry dir.slot name key b ds → seen ≡ record_in t key.slot
      → AreKept (with_changed_slot (moved_record dir name) t key.slot) (without_record seen entered)
  kept_by_move b entered seen tells is read =
      let h = linked_seen t key seen m.linked read in
      let b_is : b ≡ is_dir h.0.node = tells ∙ ap (λ o. option_map_or (λ (r : Record). is_dir r.node) o false) (known h.0 h.1 h.2) in
      let P : Option Record → List Directory → Type 0 = λ o es. AreKept (with_changed_slot (moved_record dir name) t key.slot) (without_record o es) in
      subst (λ (o : Option Record). P o entered) (sym h.3)
      (subst (λ (es : List Directory). P (Some h.0) es) (sym (is ∙ ap (λ v. with_entry dir.slot name key v ds) b_is)) (kept_moved h.0 h.1 h.2))
