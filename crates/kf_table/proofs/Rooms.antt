-- A new record, or one that moves, has room in the index of its directory.
use Rattle.std.proofs.Common.{◌≡◌, ◌≢◌, inl, inr, ℕ, ◌+◌, ◌<◌, ◌^◌, refl, ap, arith, sym, ◌∙◌, true, false, List, length, slice_set, length-set}
use Rattle.std.specs.Prelude.{None, Some, slice_get, ◌&&◌}
use Rattle.std.specs.Option.{option_map, option_and_then, option_map_or}
use Rattle.std.specs.Str.{bytes_eq}
use Rattle.std.proofs.lemmas.Option.{same_Some, none-some, slice_get_within}
use Rattle.std.proofs.lemmas.List.Sums.{count_by-le-length}
use Rattle.std.proofs.lemmas.Slice.Eq.{bytes_eq-Decides}
use Rattle.std.proofs.lemmas.Bool.Decides.{eqb_tells}
use Rattle.kf_core.specs.declared.key.Key.{Key}
use Rattle.kf_core.specs.declared.records.Record.{Record}
use Rattle.kf_core.specs.Names.{IsLawfulName}
use Rattle.kf_core.specs.Tree.{Tree, IsIn, record_at}
use Rattle.kf_core.specs.Lawful.{Lawful}
use Rattle.kf_core.specs.Commands.{moved_record}
use Rattle.kf_table.specs.declared.directory.Directory.{Directory}
use Rattle.kf_table.specs.Children.{is_there_already, is_key}
use Rattle.kf_table.specs.Changes.{with_changed_slot}
use Rattle.kf_table.specs.Directories.{entry_at, subdirs_at, is_subdir_in, IsEntry, AreKept}
use Rattle.kf_core.proofs.Climbs.{same_key_self}
use Rattle.kf_core.proofs.Lists.{slice_get-set_same, slice_get-set_other}
use Rattle.kf_core.proofs.FoundRecords.{found_in}

module _ (t : Tree) (root : Key) (lawful : Lawful t root) where
  -- records whose parents are in the same slot have the same parent
  pub one_dir : (r s : Record) (a b : Key) → IsIn t r → IsIn t s → r.parent ≡ Some a → s.parent ≡ Some b → a.slot ≡ b.slot → a ≡ b
  one_dir r s a b h g pa pb same =
      let x = lawful.in_directory r a h pa in
      let y = lawful.in_directory s b g pb in
      let fx = found_in t a x.dir x.known in
      let fy = found_in t b y.dir y.known in
      let slots : x.dir.key.slot ≡ y.dir.key.slot = ap (λ (k : Key). k.slot) fx.1 ∙ same ∙ ap (λ (k : Key). k.slot) (sym fy.1) in
      let one : x.dir ≡ y.dir = same_Some x.dir y.dir (same_Some (Some x.dir) (Some y.dir) (sym fx.0 ∙ ap (slice_get t) slots ∙ fy.0)) in
      sym fx.1 ∙ ap (λ (z : Record). z.key) one ∙ fy.1

  pub dir_low : (r : Record) (p : Key) → IsIn t r → r.parent ≡ Some p → p.slot < length t
  dir_low r p h parent =
      let x = lawful.in_directory r p h parent in
      let f = found_in t p x.dir x.known in
      slice_get_within t p.slot (Some x.dir) (ap (λ (k : Key). slice_get t k.slot) (sym f.1) ∙ f.0)

-- one more than the number of child directories is still below 2^64
pub few_subdirs : (t : Tree) (ds : List Directory) (slot : ℕ) → AreKept t ds → slot < length t → subdirs_at ds slot + 1 < 2 ^ 64
few_subdirs t ds slot kept low =
    let most = count_by-le-length (is_subdir_in slot) t in
    let was = kept.counted slot low in
    let few = kept.few in
    omega (arith, most, was, few)

-- ---- what a new record requires

module _ (t : Tree) (ds : List Directory) (kept : AreKept t ds) (r : Record) (vacant : slice_get t r.key.slot ≡ Some None)
    (root : Key) (lawful : Lawful (slice_set t r.key.slot (Some r)) root) (p : Key) (parent : r.parent ≡ Some p) where
  abbrev after_add : Tree
  after_add = slice_set t r.key.slot (Some r)

  is_new : IsIn after_add r
  is_new = slice_get-set_same t r.key.slot (Some r) (slice_get_within t r.key.slot None vacant)

  pub add_low : p.slot < length t
  add_low = let low = dir_low after_add root lawful r p is_new parent in rw (← length-set t r.key.slot (Some r)) low

  pub add_named : IsLawfulName r.name
  add_named = (lawful.in_directory r p is_new parent).lawful_name

  pub add_absent : entry_at ds p.slot r.name ≡ None
  add_absent = elim (entry_at ds p.slot r.name) as (λ o. entry_at ds p.slot r.name ≡ o → o ≡ None) [
    | None ↦ λ e. refl
    | Some key ↦ λ e. absurd (taken key ((kept.entries p.slot r.name key).0 e))
  ] refl
    where
      taken : (key : Key) → IsEntry t p.slot r.name key → ⊥
      taken key i =
          let other : i.child.key.slot ≢ r.key.slot = λ e. none-some i.child (same_Some None (Some i.child) (sym vacant ∙ ap (slice_get t) (sym e) ∙ i.is_in)) in
          let still : IsIn after_add i.child = slice_get-set_other t r.key.slot i.child.key.slot (Some r) other ∙ i.is_in in
          let dirs : i.dir ≡ p = one_dir after_add root lawful i.child r i.dir p still is_new i.parent parent i.in_slot in
          let keys = lawful.siblings i.child r still is_new (i.parent ∙ ap Some dirs ∙ sym parent) i.named in
          other (ap (λ (k : Key). k.slot) keys)

-- ---- what a move requires

module _ (t : Tree) (ds : List Directory) (kept : AreKept t ds) (root : Key) (lawful : Lawful t root)
    (key dir : Key) (name : List ℕ) (r : Record) (known : record_at t key ≡ Some r)
    (top : Key) (lawful_after : Lawful (with_changed_slot (moved_record dir name) t key.slot) top)
    (elsewhere : is_there_already t key dir name ≡ false) where
  abbrev after_move : Tree
  after_move = with_changed_slot (moved_record dir name) t key.slot

  abbrev moved : Record
  moved = moved_record dir name r

  is_r : IsIn t r
  is_r = (found_in t key r known).0

  key_r : r.key ≡ key
  key_r = (found_in t key r known).1

  here : slice_get t key.slot ≡ Some (Some r)
  here = ap (λ (k : Key). slice_get t k.slot) (sym key_r) ∙ is_r

  pub move_is : after_move ≡ slice_set t key.slot (Some moved)
  move_is = ap (λ o. slice_set t key.slot (option_and_then (option_map (moved_record dir name)) o)) here

  same_length : length after_move ≡ length t
  same_length = length-set t key.slot _

  is_moved : IsIn after_move moved
  is_moved = ap (λ (x : Tree). slice_get x r.key.slot) move_is ∙ ap (λ (k : Key). slice_get (slice_set t key.slot (Some moved)) k.slot) key_r
      ∙ slice_get-set_same t key.slot (Some moved) (slice_get_within t key.slot (Some r) here)

  other_stays : (c : Record) → IsIn t c → c.key.slot ≢ key.slot → IsIn after_move c
  other_stays c h apart = ap (λ (x : Tree). slice_get x c.key.slot) move_is ∙ slice_get-set_other t key.slot c.key.slot (Some moved) apart ∙ h

  pub move_low : dir.slot < length t
  move_low = rw (← same_length) (dir_low after_move top lawful_after moved dir is_moved refl)

  pub move_named : IsLawfulName name
  move_named = (lawful_after.in_directory moved dir is_moved refl).lawful_name

  -- the record is not yet in this directory under this name
  not_there : r.parent ≡ Some dir → r.name ≡ name → ⊥
  not_there parent named =
      let there : is_there_already t key dir name ≡ true =
      ap (λ o. option_map_or (λ (x : Record). is_key dir x.parent && bytes_eq x.name name) o false) known
      ∙ ap (λ o. is_key dir o && bytes_eq r.name name) parent ∙ ap (λ b. b && bytes_eq r.name name) (same_key_self dir)
      ∙ (bytes_eq-Decides r.name name).1 named in
      let no : false ≡ true = sym elsewhere ∙ there in cc

  -- a parent in the slot of the new directory is the new directory
  one_place : (c : Record) (d : Key) → IsIn t c → c.parent ≡ Some d → d.slot ≡ dir.slot → d ≡ dir
  one_place c d h parent same =
      let x = lawful.in_directory c d h parent in
      let fx = found_in t d x.dir x.known in
      let y = lawful_after.in_directory moved dir is_moved refl in
      let fy = found_in after_move dir y.dir y.known in
      let slots : x.dir.key.slot ≡ y.dir.key.slot = ap (λ (k : Key). k.slot) fx.1 ∙ same ∙ ap (λ (k : Key). k.slot) (sym fy.1) in
      elim (eqb_tells x.dir.key.slot key.slot) [
        | inl e ↦ (let is_x : x.dir ≡ r = same_Some x.dir r (same_Some (Some x.dir) (Some r) (sym fx.0 ∙ ap (slice_get t) e.1 ∙ here)) in
            let is_y : moved ≡ y.dir = same_Some moved y.dir (same_Some (Some moved) (Some y.dir)
            (sym is_moved ∙ ap (slice_get after_move) (ap (λ (k : Key). k.slot) key_r ∙ sym e.1 ∙ slots) ∙ fy.0)) in
            sym fx.1 ∙ ap (λ (z : Record). z.key) is_x ∙ ap (λ (z : Record). z.key) is_y ∙ fy.1)
        | inr e ↦ (let still = other_stays x.dir fx.0 e.1 in
            let one : x.dir ≡ y.dir = same_Some x.dir y.dir (same_Some (Some x.dir) (Some y.dir) (sym still ∙ ap (slice_get after_move) slots ∙ fy.0)) in
            sym fx.1 ∙ ap (λ (z : Record). z.key) one ∙ fy.1)
      ]

  pub move_absent : entry_at ds dir.slot name ≡ None
  move_absent = elim (entry_at ds dir.slot name) as (λ o. entry_at ds dir.slot name ≡ o → o ≡ None) [
    | None ↦ λ e. refl
    | Some k ↦ λ e. absurd (taken k ((kept.entries dir.slot name k).0 e))
  ] refl
    where
      taken : (k : Key) → IsEntry t dir.slot name k → ⊥
      taken k i =
          let dirs : i.dir ≡ dir = one_place i.child i.dir i.is_in i.parent i.in_slot in
          elim (eqb_tells i.child.key.slot key.slot) [
            | inl e ↦ (let is : i.child ≡ r = same_Some i.child r (same_Some (Some i.child) (Some r) (sym i.is_in ∙ ap (slice_get t) e.1 ∙ here)) in
                not_there (ap (λ (x : Record). x.parent) (sym is) ∙ i.parent ∙ ap Some dirs) (ap (λ (x : Record). x.name) (sym is) ∙ i.named))
            | inr e ↦ (let still = other_stays i.child i.is_in e.1 in
                let keys : i.child.key ≡ r.key = lawful_after.siblings i.child moved still is_moved (i.parent ∙ ap Some dirs) i.named in
                e.1 (ap (λ (k : Key). k.slot) (keys ∙ key_r)))
          ]
