-- The indexes stay right when a record is added, removed or moved.
use Rattle.std.proofs.Common.{◌≡◌, ◌≢◌, ◌⊎◌, inl, inr, ℕ, ◌+◌, ◌-◌, ◌<◌, refl, ap, arith, sym, ◌∙◌, Bool, true, false, cond, List, length, slice_set, length-set, get_or}
use Rattle.std.specs.Prelude.{Option, None, Some, slice_get, count_by, ◌&&◌}
use Rattle.std.specs.Option.{option_and_then}
use Rattle.std.specs.FinMap.{get}
use Rattle.std.proofs.lemmas.Option.{same_Some, none-some, slice_get_within, get_or_from_slice_get}
use Rattle.std.proofs.lemmas.List.Sums.{sum_by-set}
use Rattle.std.proofs.lemmas.Bool.Decides.{eqb_tells}
use Rattle.kf_core.specs.declared.key.Key.{Key}
use Rattle.kf_core.specs.declared.records.Record.{Record}
use Rattle.kf_core.specs.Tree.{Tree, IsIn, is_dir}
use Rattle.kf_table.specs.declared.directory.Directory.{Directory}
use Rattle.kf_table.specs.Directories.{with_entry, without_entry, without_record, MayRemove, entry_at, subdirs_at, is_slot_of, is_subdir_in, IsEntry, AreKept}
use Rattle.kf_core.proofs.Lists.{slice_get-set_same, slice_get-set_other}
use Rattle.kf_table.proofs.Entries.{entries_tell, entered_there, entered_elsewhere, entered_counted, left_there, left_elsewhere, left_counted, subdirs_elsewhere}

-- ---- counts

abbrev pub counted : Bool → ℕ
counted b = cond b 1 0

-- what a write of one slot does to the number of slots that pass a test
pub count_written : (test : Option Record → Bool) (t : Tree) (at : ℕ) (old new : Option Record) → slice_get t at ≡ Some old →
    count_by test (slice_set t at new) + counted (test old) ≡ count_by test t + counted (test new)
count_written test t at old new h =
    let e : get_or t at None ≡ old = get_or_from_slice_get t at old None h in
    rw e at (sum_by-set (λ o. counted (test o)) t at new None (slice_get_within t at old h))

in_parent : (slot : ℕ) (r : Record) (p : Key) → r.parent ≡ Some p → slot ≡ p.slot → is_subdir_in slot (Some r) ≡ is_dir r.node
in_parent slot r p parent is = elim (eqb_tells p.slot slot) [
  | inl e ↦ ap (λ o. is_slot_of slot o && is_dir r.node) parent ∙ ap (λ b. b && is_dir r.node) e.0
  | inr e ↦ absurd (e.1 (sym is))
]

not_in_parent : (slot : ℕ) (r : Record) (p : Key) → r.parent ≡ Some p → slot ≢ p.slot → is_subdir_in slot (Some r) ≡ false
not_in_parent slot r p parent apart = elim (eqb_tells p.slot slot) [
  | inl e ↦ absurd (apart (sym e.1))
  | inr e ↦ ap (λ o. is_slot_of slot o && is_dir r.node) parent ∙ ap (λ b. b && is_dir r.node) e.0
]

pub in_none : (slot : ℕ) (r : Record) → r.parent ≡ None → is_subdir_in slot (Some r) ≡ false
in_none slot r parent = ap (λ o. is_slot_of slot o && is_dir r.node) parent

-- ---- a record is added

module _ (t : Tree) (ds : List Directory) (kept : AreKept t ds) (r : Record) (vacant : slice_get t r.key.slot ≡ Some None) where
  abbrev grown : Tree
  grown = slice_set t r.key.slot (Some r)

  new_in : IsIn grown r
  new_in = slice_get-set_same t r.key.slot (Some r) (slice_get_within t r.key.slot None vacant)

  apart_from_new : (c : Record) → IsIn t c → c.key.slot ≢ r.key.slot
  apart_from_new c is e = none-some c (same_Some None (Some c) (sym vacant ∙ ap (slice_get t) (sym e) ∙ is))

  pub stays : (c : Record) → IsIn t c → IsIn grown c
  stays c is = slice_get-set_other t r.key.slot c.key.slot (Some r) (apart_from_new c is) ∙ is

  pub new_or_old : (c : Record) → IsIn grown c → (r ≡ c) ⊎ IsIn t c
  new_or_old c is = elim (eqb_tells c.key.slot r.key.slot) [
    | inl e ↦ inl (same_Some r c (same_Some (Some r) (Some c) (sym new_in ∙ ap (slice_get grown) (sym e.1) ∙ is)))
    | inr e ↦ inr (sym (slice_get-set_other t r.key.slot c.key.slot (Some r) e.1) ∙ is)
  ]

  entry_stays : (slot : ℕ) (name : List ℕ) (key : Key) → IsEntry t slot name key → IsEntry grown slot name key
  entry_stays slot name key i = record {
    child = i.child;
    is_in = stays i.child i.is_in;
    has_key = i.has_key;
    dir = i.dir;
    parent = i.parent;
    in_slot = i.in_slot;
    named = i.named;
  }

  -- the record is added to a directory that has no child of that name
  module _ (p : Key) (parent : r.parent ≡ Some p) (within : p.slot < length ds) (absent : entry_at ds p.slot r.name ≡ None) where
    abbrev entered : List Directory
    entered = with_entry p.slot r.name r.key (is_dir r.node) ds

    there : entry_at entered p.slot r.name ≡ Some r.key
    there = entered_there ds p.slot within r.name r.key (is_dir r.node)

    elsewhere : (slot : ℕ) (q : List ℕ) → ¬ ((slot ≡ p.slot) × (q ≡ r.name)) → entry_at entered slot q ≡ entry_at ds slot q
    elsewhere = entered_elsewhere ds p.slot within r.name r.key (is_dir r.node)

    there_is : (slot : ℕ) (q : List ℕ) → slot ≡ p.slot → q ≡ r.name → entry_at entered slot q ≡ Some r.key
    there_is slot q s n = ap (λ i. entry_at entered i q) s ∙ ap (entry_at entered p.slot) n ∙ there

    leads : (slot : ℕ) (name : List ℕ) (key : Key) → entry_at entered slot name ≡ Some key → IsEntry grown slot name key
    leads slot name key h = elim (entries_tell slot p.slot name r.name) [
      | inl e ↦ record {
        child = r;
        is_in = new_in;
        has_key = same_Some r.key key (sym (there_is slot name e.0 e.1) ∙ h);
        dir = p;
        parent = parent;
        in_slot = sym e.0;
        named = sym e.1;
      }
      | inr n ↦ entry_stays slot name key ((kept.entries slot name key).0 (sym (elsewhere slot name n) ∙ h))
    ]

    led : (slot : ℕ) (name : List ℕ) (key : Key) → IsEntry grown slot name key → entry_at entered slot name ≡ Some key
    led slot name key i = elim (new_or_old i.child i.is_in) [
      | inl e ↦ (let same_dir : p ≡ i.dir = same_Some p i.dir (sym parent ∙ ap (λ (x : Record). x.parent) e ∙ i.parent) in
          there_is slot name (sym i.in_slot ∙ ap (λ (k : Key). k.slot) (sym same_dir)) (sym i.named ∙ ap (λ (x : Record). x.name) (sym e))
          ∙ ap Some (ap (λ (x : Record). x.key) e ∙ i.has_key))
      | inr old ↦ (let before : entry_at ds slot name ≡ Some key = (kept.entries slot name key).1 (record {
        child = i.child;
        is_in = old;
        has_key = i.has_key;
        dir = i.dir;
        parent = i.parent;
        in_slot = i.in_slot;
        named = i.named;
      }) in
          elim (entries_tell slot p.slot name r.name) [
            | inl e ↦ absurd (none-some key (sym absent ∙ ap (λ j. entry_at ds j r.name) (sym e.0) ∙ ap (entry_at ds slot) (sym e.1) ∙ before))
            | inr n ↦ elsewhere slot name n ∙ before
          ])
    ]

    count_grown : (slot : ℕ) → slot < length t → subdirs_at entered slot ≡ count_by (is_subdir_in slot) grown
    count_grown slot low =
        let w = count_written (is_subdir_in slot) t r.key.slot None (Some r) vacant in
        let was = kept.counted slot low in
        elim (eqb_tells slot p.slot) [
          | inl e ↦ (let now : subdirs_at entered slot ≡ cond (is_dir r.node) (subdirs_at ds slot + 1) (subdirs_at ds slot) =
              ap (subdirs_at entered) e.1 ∙ entered_counted ds p.slot within r.name r.key (is_dir r.node) ∙ ap (λ j. cond (is_dir r.node) (subdirs_at ds j + 1) (subdirs_at ds j)) (sym e.1) in
              now ∙ up (is_dir r.node) (subdirs_at ds slot) _ _ was (ap counted (in_parent slot r p parent e.1)) w)
          | inr e ↦ (let none = ap counted (not_in_parent slot r p parent e.1) in
              subdirs_elsewhere ds p.slot within _ slot e.1 ∙ was ∙ same_count _ _ _ none w)
        ]
      where
        up : (b : Bool) (kept_count before after : ℕ) {one : ℕ} → kept_count ≡ before → one ≡ counted b → after + 0 ≡ before + one → cond b (kept_count + 1) kept_count ≡ after
        up true k before after same is sum = omega (arith, same, is, sum)
        up false k before after same is sum = omega (arith, same, is, sum)

        same_count : (before after one : ℕ) → one ≡ 0 → after + 0 ≡ before + one → before ≡ after
        same_count before after one is sum = omega (arith, is, sum)

    pub kept_with : AreKept grown entered
    kept_with = record {
      as_many = length-set ds p.slot _ ∙ kept.as_many ∙ sym (length-set t r.key.slot (Some r));
      few = rw (length-set t r.key.slot (Some r)) kept.few;
      entries = λ slot name key. (leads slot name key, led slot name key);
      counted = λ slot low. count_grown slot (rw (length-set t r.key.slot (Some r)) at low);
    }

-- ---- a record is removed

module _ (t : Tree) (ds : List Directory) (kept : AreKept t ds) (r : Record) (is_in : IsIn t r) where
  abbrev cleared : Tree
  cleared = slice_set t r.key.slot None

  pub none_there : slice_get cleared r.key.slot ≡ Some None
  none_there = slice_get-set_same t r.key.slot None (slice_get_within t r.key.slot (Some r) is_in)

  was_there : (c : Record) → IsIn cleared c → IsIn t c
  was_there c is = elim (eqb_tells c.key.slot r.key.slot) [
    | inl e ↦ absurd (none-some c (same_Some None (Some c) (sym none_there ∙ ap (slice_get cleared) (sym e.1) ∙ is)))
    | inr e ↦ sym (slice_get-set_other t r.key.slot c.key.slot None e.1) ∙ is
  ]

  gone : (c : Record) → IsIn cleared c → c.key ≢ r.key
  gone c is e = none-some c (same_Some None (Some c) (sym none_there ∙ ap (λ (k : Key). slice_get cleared k.slot) (sym e) ∙ is))

  -- every other record is still there
  still : (c : Record) → IsIn t c → c ≢ r → IsIn cleared c
  still c is differ = elim (eqb_tells c.key.slot r.key.slot) [
    | inl e ↦ absurd (differ (same_Some c r (same_Some (Some c) (Some r) (sym is ∙ ap (slice_get t) e.1 ∙ is_in))))
    | inr e ↦ slice_get-set_other t r.key.slot c.key.slot None e.1 ∙ is
  ]

  entry_was : (slot : ℕ) (name : List ℕ) (key : Key) → IsEntry cleared slot name key → IsEntry t slot name key
  entry_was slot name key i = record {
    child = i.child;
    is_in = was_there i.child i.is_in;
    has_key = i.has_key;
    dir = i.dir;
    parent = i.parent;
    in_slot = i.in_slot;
    named = i.named;
  }

  entry_still : (slot : ℕ) (name : List ℕ) (key : Key) → (i : IsEntry t slot name key) → i.child ≢ r → IsEntry cleared slot name key
  entry_still slot name key i differ = record {
    child = i.child;
    is_in = still i.child i.is_in differ;
    has_key = i.has_key;
    dir = i.dir;
    parent = i.parent;
    in_slot = i.in_slot;
    named = i.named;
  }

  pub own_entry : (p : Key) → r.parent ≡ Some p → entry_at ds p.slot r.name ≡ Some r.key
  own_entry p parent = (kept.entries p.slot r.name r.key).1 (record {
    child = r;
    is_in = is_in;
    has_key = refl;
    dir = p;
    parent = parent;
    in_slot = refl;
    named = refl;
  })

  pub dir_within : (p : Key) → r.parent ≡ Some p → p.slot < length ds
  dir_within p parent = within_of (slice_get ds p.slot) refl (own_entry p parent)
    where
      within_of : (o : Option Directory) → slice_get ds p.slot ≡ o → option_and_then (λ (d : Directory). get d.index r.name) o ≡ Some r.key → p.slot < length ds
      within_of None e h = absurd (none-some r.key h)
      within_of (Some d) e h = slice_get_within ds p.slot d e

  pub dir_counts : (p : Key) → r.parent ≡ Some p → is_dir r.node ≡ true → 0 < subdirs_at ds p.slot
  dir_counts p parent is_subdir =
      let w = count_written (is_subdir_in p.slot) t r.key.slot (Some r) None is_in in
      let one = ap counted (in_parent p.slot r p parent refl ∙ is_subdir) in
      let was = kept.counted p.slot (rw (← kept.as_many) (dir_within p parent)) in
      omega (arith, w, one, was)

  pub may_remove : MayRemove ds (Some r)
  may_remove = λ p parent. (dir_within p parent, dir_counts p parent)

  module _ (p : Key) (parent : r.parent ≡ Some p) where
    abbrev left : List Directory
    left = without_entry (Some p) r.name (is_dir r.node) ds

    apart : (slot : ℕ) (q : List ℕ) → ¬ ((slot ≡ p.slot) × (q ≡ r.name)) → entry_at left slot q ≡ entry_at ds slot q
    apart = left_elsewhere ds p.slot (dir_within p parent) r.name (is_dir r.node)

    nothing : (slot : ℕ) (q : List ℕ) → slot ≡ p.slot → q ≡ r.name → entry_at left slot q ≡ None
    nothing slot q s n = ap (λ i. entry_at left i q) s ∙ ap (entry_at left p.slot) n ∙ left_there ds p.slot (dir_within p parent) r.name (is_dir r.node)

    leads_still : (slot : ℕ) (name : List ℕ) (key : Key) → entry_at left slot name ≡ Some key → IsEntry cleared slot name key
    leads_still slot name key h = elim (entries_tell slot p.slot name r.name) [
      | inl e ↦ absurd (none-some key (sym (nothing slot name e.0 e.1) ∙ h))
      | inr n ↦ (let i = (kept.entries slot name key).0 (sym (apart slot name n) ∙ h) in
          entry_still slot name key i (λ same.
          let same_dir : i.dir ≡ p = same_Some i.dir p (sym i.parent ∙ ap (λ (x : Record). x.parent) same ∙ parent) in
          n (sym i.in_slot ∙ ap (λ (k : Key). k.slot) same_dir, sym i.named ∙ ap (λ (x : Record). x.name) same)))
    ]

    led_still : (slot : ℕ) (name : List ℕ) (key : Key) → IsEntry cleared slot name key → entry_at left slot name ≡ Some key
    led_still slot name key i =
        let before : entry_at ds slot name ≡ Some key = (kept.entries slot name key).1 (entry_was slot name key i) in
        elim (entries_tell slot p.slot name r.name) [
          | inl e ↦ (let same : key ≡ r.key = same_Some key r.key (sym before ∙ ap (λ j. entry_at ds j name) e.0 ∙ ap (entry_at ds p.slot) e.1 ∙ own_entry p parent) in
              absurd (gone i.child i.is_in (i.has_key ∙ same)))
          | inr n ↦ apart slot name n ∙ before
        ]

    count_left : (slot : ℕ) → slot < length t → subdirs_at left slot ≡ count_by (is_subdir_in slot) cleared
    count_left slot low =
        let w = count_written (is_subdir_in slot) t r.key.slot (Some r) None is_in in
        let was = kept.counted slot low in
        elim (eqb_tells slot p.slot) [
          | inl e ↦ (let now : subdirs_at left slot ≡ cond (is_dir r.node) (subdirs_at ds slot - 1) (subdirs_at ds slot) =
              ap (subdirs_at left) e.1 ∙ left_counted ds p.slot (dir_within p parent) r.name (is_dir r.node) ∙ ap (λ j. cond (is_dir r.node) (subdirs_at ds j - 1) (subdirs_at ds j)) (sym e.1) in
              now ∙ down (is_dir r.node) (subdirs_at ds slot) _ _ was (ap counted (in_parent slot r p parent e.1)) w)
          | inr e ↦ (let none = ap counted (not_in_parent slot r p parent e.1) in
              subdirs_elsewhere ds p.slot (dir_within p parent) _ slot e.1 ∙ was ∙ less _ _ _ none w)
        ]
      where
        down : (b : Bool) (kept_count before after : ℕ) {one : ℕ} → kept_count ≡ before → one ≡ counted b → after + one ≡ before + 0 → cond b (kept_count - 1) kept_count ≡ after
        down true k before after same is sum = omega (arith, same, is, sum)
        down false k before after same is sum = omega (arith, same, is, sum)

        less : (before after one : ℕ) → one ≡ 0 → after + one ≡ before + 0 → before ≡ after
        less before after one is sum = omega (arith, is, sum)

    kept_left : AreKept cleared left
    kept_left = record {
      as_many = length-set ds p.slot _ ∙ kept.as_many ∙ sym (length-set t r.key.slot None);
      few = rw (length-set t r.key.slot None) kept.few;
      entries = λ slot name key. (leads_still slot name key, led_still slot name key);
      counted = λ slot low. count_left slot (rw (length-set t r.key.slot None) at low);
    }

  -- the root has no entry
  kept_rootless : r.parent ≡ None → AreKept cleared ds
  kept_rootless orphan = record {
    as_many = kept.as_many ∙ sym (length-set t r.key.slot None);
    few = rw (length-set t r.key.slot None) kept.few;
    entries = λ slot name key. (
      (λ h. let i = (kept.entries slot name key).0 h in
          entry_still slot name key i (λ same. none-some i.dir (sym orphan ∙ ap (λ (x : Record). x.parent) (sym same) ∙ i.parent))),
      (λ i. (kept.entries slot name key).1 (entry_was slot name key i)),
    );
    counted = λ slot low.
        let w = count_written (is_subdir_in slot) t r.key.slot (Some r) None is_in in
        let none = ap counted (in_none slot r orphan) in
        let was = kept.counted slot (rw (length-set t r.key.slot None) at low) in
        was ∙ omega (arith, w, none);
  }

  pub kept_without : AreKept cleared (without_record (Some r) ds)
  kept_without = elim r.parent as (λ o. r.parent ≡ o → AreKept cleared (without_entry o r.name (is_dir r.node) ds)) [
    | None ↦ λ e. kept_rootless e
    | Some p ↦ λ e. kept_left p e
  ] refl
