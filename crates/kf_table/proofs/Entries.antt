-- What adding or removing a child does to the indexes, by slot and name.
use Rattle.std.proofs.Common.{◌≡◌, ◌≢◌, ◌⊎◌, inl, inr, ℕ, ◌+◌, ◌-◌, ◌<◌, refl, ap, sym, ◌∙◌, Bool, true, false, cond, List, length, slice_set, get_or}
use Rattle.std.specs.Prelude.{None, Some, slice_get}
use Rattle.std.specs.Option.{option_and_then, option_map_or}
use Rattle.std.specs.Ordering.{nat_cmp, eq_by_cmp}
use Rattle.std.specs.Cmp.Lexicographic.{slice_cmp}
use Rattle.std.specs.FinMap.{get, len, get-insert, get-remove}
use Rattle.std.proofs.lemmas.Cmp.{nat_list_cmp_total}
use Rattle.std.proofs.lemmas.Map.Text.{is_eq-slice_cmp}
use Rattle.std.proofs.lemmas.Slice.Eq.{bytes_eq-Decides}
use Rattle.std.proofs.lemmas.Option.{slice_get-get_or}
use Rattle.std.proofs.lemmas.Bool.Decides.{eqb_tells}
use Rattle.kf_core.specs.declared.key.Key.{Key}
use Rattle.kf_table.specs.declared.directory.Directory.{Directory}
use Rattle.kf_table.specs.Directories.{empty_directory, with_child, without_child, with_entry, entry_at, subdirs_at, names_at}
use Rattle.kf_core.proofs.Lists.{slice_get-set_same, slice_get-set_other}

abbrev pub is_same : List ℕ → List ℕ → Bool
is_same = eq_by_cmp (slice_cmp nat_cmp)

-- two names are either the same or not
pub names_tell : (a b : List ℕ) → ((is_same a b ≡ true) × (a ≡ b)) ⊎ ((is_same a b ≡ false) × (a ≢ b))
names_tell a b = elim (is_same a b) as (λ v. is_same a b ≡ v → ((v ≡ true) × (a ≡ b)) ⊎ ((v ≡ false) × (a ≢ b))) [
  | true ↦ λ e. inl (refl, (bytes_eq-Decides a b).0 (sym (is_eq-slice_cmp a b) ∙ e))
  | false ↦ λ e. inr (refl, λ same. let x : false ≡ true = sym e ∙ is_eq-slice_cmp a b ∙ (bytes_eq-Decides a b).1 same in cc)
] refl

-- a slot and a name are either both these or not
pub entries_tell : (slot at : ℕ) (q name : List ℕ) → ((slot ≡ at) × (q ≡ name)) ⊎ (¬ ((slot ≡ at) × (q ≡ name)))
entries_tell slot at q name = elim (eqb_tells slot at) [
  | inl s ↦ elim (names_tell q name) [ inl n ↦ inl (s.1, n.1) | inr n ↦ inr (λ both. n.1 both.1) ]
  | inr s ↦ inr (λ both. s.1 both.0)
]

same_tells : (q name : List ℕ) → q ≡ name → is_same q name ≡ true
same_tells q name e = elim (names_tell q name) [ inl n ↦ n.0 | inr n ↦ absurd (n.1 e) ]

other_tells : (q name : List ℕ) → q ≢ name → is_same q name ≡ false
other_tells q name d = elim (names_tell q name) [ inl n ↦ absurd (d n.1) | inr n ↦ n.0 ]

module _ (ds : List Directory) (at : ℕ) (within : at < length ds) where
  -- the directory that is kept for the slot
  abbrev here : Directory
  here = get_or ds at empty_directory

  is_here : slice_get ds at ≡ Some here
  is_here = slice_get-get_or ds at empty_directory within

  written : (d : Directory) → slice_get (slice_set ds at d) at ≡ Some d
  written d = slice_get-set_same ds at d within

  entry_here : (q : List ℕ) → entry_at ds at q ≡ get here.index q
  entry_here q = ap (λ o. option_and_then (λ (d : Directory). get d.index q) o) is_here

  entry_written : (d : Directory) (q : List ℕ) → entry_at (slice_set ds at d) at q ≡ get d.index q
  entry_written d q = ap (λ o. option_and_then (λ (d : Directory). get d.index q) o) (written d)

  entry_elsewhere : (d : Directory) (slot : ℕ) (q : List ℕ) → slot ≢ at → entry_at (slice_set ds at d) slot q ≡ entry_at ds slot q
  entry_elsewhere d slot q apart = ap (λ o. option_and_then (λ (d : Directory). get d.index q) o) (slice_get-set_other ds at slot d apart)

  subdirs_here : subdirs_at ds at ≡ here.subdirs
  subdirs_here = ap (λ o. option_map_or (λ (d : Directory). d.subdirs) o 0) is_here

  subdirs_written : (d : Directory) → subdirs_at (slice_set ds at d) at ≡ d.subdirs
  subdirs_written d = ap (λ o. option_map_or (λ (d : Directory). d.subdirs) o 0) (written d)

  pub subdirs_elsewhere : (d : Directory) (slot : ℕ) → slot ≢ at → subdirs_at (slice_set ds at d) slot ≡ subdirs_at ds slot
  subdirs_elsewhere d slot apart = ap (λ o. option_map_or (λ (d : Directory). d.subdirs) o 0) (slice_get-set_other ds at slot d apart)

  module _ (name : List ℕ) (key : Key) (is_subdir : Bool) where
    abbrev entered : List Directory
    entered = with_entry at name key is_subdir ds

    pub entered_there : entry_at entered at name ≡ Some key
    entered_there = entry_written (with_child name key is_subdir here) name ∙ get-insert nat_list_cmp_total here.index name key name ∙ ap (λ b. cond b (Some key) (get here.index name)) (same_tells name name refl)

    pub entered_elsewhere : (slot : ℕ) (q : List ℕ) → ¬ ((slot ≡ at) × (q ≡ name)) → entry_at entered slot q ≡ entry_at ds slot q
    entered_elsewhere slot q apart = elim (eqb_tells slot at) [
      | inl s ↦ (let other : q ≢ name = λ e. apart (s.1, e) in
          let now : entry_at entered at q ≡ entry_at ds at q =
          entry_written (with_child name key is_subdir here) q ∙ get-insert nat_list_cmp_total here.index name key q
          ∙ ap (λ b. cond b (Some key) (get here.index q)) (other_tells q name other) ∙ sym (entry_here q) in
          ap (λ i. entry_at entered i q) s.1 ∙ now ∙ ap (λ i. entry_at ds i q) (sym s.1))
      | inr s ↦ entry_elsewhere (with_child name key is_subdir here) slot q s.1
    ]

    pub entered_counted : subdirs_at entered at ≡ cond is_subdir (subdirs_at ds at + 1) (subdirs_at ds at)
    entered_counted = subdirs_written (with_child name key is_subdir here) ∙ ap (λ n. cond is_subdir (n + 1) n) (sym subdirs_here)

  module _ (name : List ℕ) (is_subdir : Bool) where
    abbrev left : List Directory
    left = slice_set ds at (without_child name is_subdir here)

    pub left_there : entry_at left at name ≡ None
    left_there = entry_written (without_child name is_subdir here) name ∙ get-remove nat_list_cmp_total here.index name name ∙ ap (λ b. cond b None (get here.index name)) (same_tells name name refl)

    pub left_elsewhere : (slot : ℕ) (q : List ℕ) → ¬ ((slot ≡ at) × (q ≡ name)) → entry_at left slot q ≡ entry_at ds slot q
    left_elsewhere slot q apart = elim (eqb_tells slot at) [
      | inl s ↦ (let other : q ≢ name = λ e. apart (s.1, e) in
          let now : entry_at left at q ≡ entry_at ds at q =
          entry_written (without_child name is_subdir here) q ∙ get-remove nat_list_cmp_total here.index name q
          ∙ ap (λ b. cond b None (get here.index q)) (other_tells q name other) ∙ sym (entry_here q) in
          ap (λ i. entry_at left i q) s.1 ∙ now ∙ ap (λ i. entry_at ds i q) (sym s.1))
      | inr s ↦ entry_elsewhere (without_child name is_subdir here) slot q s.1
    ]

    pub left_counted : subdirs_at left at ≡ cond is_subdir (subdirs_at ds at - 1) (subdirs_at ds at)
    left_counted = subdirs_written (without_child name is_subdir here) ∙ ap (λ n. cond is_subdir (n - 1) n) (sym subdirs_here)

-- what is read from the directory of a slot is what the indexes have for the slot
pub entry_read : (ds : List Directory) (slot : ℕ) (d : Directory) (q : List ℕ) → slot < length ds → d ≡ get_or ds slot empty_directory → entry_at ds slot q ≡ get d.index q
entry_read ds slot d q within is = ap (λ o. option_and_then (λ (d : Directory). get d.index q) o) (slice_get-get_or ds slot empty_directory within ∙ ap Some (sym is))

pub subdirs_read : (ds : List Directory) (slot : ℕ) (d : Directory) → slot < length ds → d ≡ get_or ds slot empty_directory → subdirs_at ds slot ≡ d.subdirs
subdirs_read ds slot d within is = ap (λ o. option_map_or (λ (d : Directory). d.subdirs) o 0) (slice_get-get_or ds slot empty_directory within ∙ ap Some (sym is))

pub names_read : (ds : List Directory) (slot : ℕ) (d : Directory) → slot < length ds → d ≡ get_or ds slot empty_directory → names_at ds slot ≡ len d.index
names_read ds slot d within is = ap (λ o. option_map_or (λ (d : Directory). len d.index) o 0) (slice_get-get_or ds slot empty_directory within ∙ ap Some (sym is))
