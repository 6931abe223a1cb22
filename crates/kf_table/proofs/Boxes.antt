-- Which directory is in the box of each slot, and what a change to one box does to these directories.
use Rattle.std.proofs.Common.{◌≡◌, ◌≢◌, ◌↔◌, IsTrue, nat_eq, inl, inr, ℕ, zero, suc, ◌+◌, ◌-◌, ◌<◌, ◌^◌, refl, ap, arith, sym, ◌∙◌, Bool, true, false, cond, List, [], ◌∷◌, map, get_or, replicate, slice_set, subst}
use Rattle.std.specs.Prelude.{Option, None, Some, Result, Ok, Err, OnErr, slice_get}
use Rattle.std.specs.Option.{option_and_then}
use Rattle.std.specs.Ordering.{nat_cmp}
use Rattle.std.specs.Cmp.Lexicographic.{slice_cmp}
use Rattle.std.specs.FinMap.{FinMap, empty, get, remove, len, empty_of_len, get-empty, len-empty, len-remove}
use Rattle.std.specs.Global.{Box}
use Rattle.std.proofs.lemmas.Cmp.{nat_list_cmp_total}
use Rattle.std.proofs.lemmas.Bool.Decides.{eqb_tells}
use Rattle.std.proofs.lemmas.List.{map-set, set-get_or, set-set}
use Rattle.kf_core.specs.declared.key.Key.{Key}
use Rattle.kf_index.specs.Entries.{AreAbove}
use Rattle.kf_table.specs.declared.directory.Directory.{Directory}
use Rattle.kf_table.specs.Directories.{empty_directory, directory_in, without_child, subdirs_at, HasRoomFor}
use Rattle.kf_table.proofs.Entries.{entry_read, subdirs_read, names_read}

-- the box of a slot, if there is one
abbrev pub box_in : List (Option (Box Directory)) → ℕ → Option (Box Directory)
box_in boxes slot = option_and_then (λ item. item) (slice_get boxes slot)

pub directory_read : (boxes : List (Option (Box Directory))) (slot : ℕ) → get_or (map directory_in boxes) slot empty_directory ≡ directory_in (box_in boxes slot)
directory_read [] slot = refl
directory_read (x ∷ xs) zero = refl
directory_read (x ∷ xs) (suc slot) = directory_read xs slot

pub subdirs_told : (ds : List Directory) (slot : ℕ) → subdirs_at ds slot ≡ (get_or ds slot empty_directory).subdirs
subdirs_told [] slot = refl
subdirs_told (d ∷ ds) zero = refl
subdirs_told (d ∷ ds) (suc slot) = subdirs_told ds slot

-- a box is taken out of its slot and put back with this directory in it
pub put_back : (boxes opened after : List (Option (Box Directory))) (slot : ℕ) (kept : Box Directory) (d : Directory)
    → opened ≡ slice_set boxes slot None → after ≡ slice_set opened slot (Some kept) → kept.value ≡ d → map directory_in after ≡ slice_set (map directory_in boxes) slot d
put_back boxes opened after slot kept d taken put is =
    ap (map directory_in) (put ∙ ap (λ (bs : List (Option (Box Directory))). slice_set bs slot (Some kept)) taken ∙ set-set boxes slot None (Some kept))
    ∙ map-set directory_in boxes slot (Some kept) ∙ ap (λ x. slice_set (map directory_in boxes) slot x) is

-- a box is taken out of its slot and put back as it was
pub put_back_same : (boxes opened after : List (Option (Box Directory))) (slot : ℕ) (kept : Box Directory)
    → opened ≡ slice_set boxes slot None → after ≡ slice_set opened slot (Some kept) → kept.value ≡ directory_in (box_in boxes slot) → map directory_in after ≡ map directory_in boxes
put_back_same boxes opened after slot kept taken put is =
    put_back boxes opened after slot kept (get_or (map directory_in boxes) slot empty_directory) taken put (is ∙ sym (directory_read boxes slot))
    ∙ set-get_or (map directory_in boxes) slot empty_directory

-- removing the box of a directory without children changes no directory
pub taken_away : (boxes : List (Option (Box Directory))) (slot : ℕ) → directory_in (box_in boxes slot) ≡ empty_directory
    → map directory_in (slice_set boxes slot None) ≡ map directory_in boxes
taken_away [] slot is = refl
taken_away (x ∷ xs) zero is = ap (λ (d : Directory). d ∷ map directory_in xs) (sym is)
taken_away (x ∷ xs) (suc slot) is = ap (λ (ds : List Directory). directory_in x ∷ ds) (taken_away xs slot is)

abbrev Names : Type 0
Names = FinMap (slice_cmp nat_cmp) Key

nothing_less : (name : List ℕ) → remove (empty {X = Key} {R = slice_cmp nat_cmp}) name ≡ empty
nothing_less name = empty_of_len _ (len-remove nat_list_cmp_total empty name ∙ none _ _ (len-empty (slice_cmp nat_cmp) Key))
  where
    none : (b : Bool) (n : ℕ) → n ≡ 0 → cond b (n - 1) n ≡ 0
    none true n is = omega (arith, is)
    none false n is = is

-- a directory without names is the empty directory if and only if it counts no subdirectories
pub childless : (d : Directory) → len d.index ≡ 0 → IsTrue (nat_eq d.subdirs 0) ↔ (d ≡ empty_directory)
childless d few = (
  (λ h. elim (eqb_tells d.subdirs 0) [
    | inl e ↦ (let names = empty_of_len d.index few in λ i. record { index = names i; subdirs = e.1 i })
    | inr e ↦ absurd (let no : false ≡ true = sym e.0 ∙ h in cc)
  ]),
  (λ is. ap (λ (x : Directory). nat_eq x.subdirs 0) is),
)

pub with_children : (d : Directory) (n : ℕ) → n ≡ len d.index → n ≢ 0 → IsTrue (nat_eq n 0) ↔ (d ≡ empty_directory)
with_children d n is some = (
  (λ h. elim (eqb_tells n 0) [
    | inl e ↦ absurd (some e.1)
    | inr e ↦ absurd (let no : false ≡ true = sym e.0 ∙ h in cc)
  ]),
  (λ e. absurd (some (is ∙ ap (λ (x : Directory). len x.index) e ∙ len-empty (slice_cmp nat_cmp) Key))),
)

-- removing a name from a directory without children changes nothing
left_as_is : (name : List ℕ) (is_subdir : Bool) (d : Directory) → d ≡ empty_directory → (is_subdir ≡ true → 0 < d.subdirs) → without_child name is_subdir d ≡ d
left_as_is name true d is more = absurd (let m = more refl in let none = ap (λ (x : Directory). x.subdirs) is in omega (arith, m, none))
left_as_is name false d is more = ap (without_child name false) is ∙ ap (λ (names : Names). record { index = names; subdirs = 0 }) (nothing_less name) ∙ sym is

pub removed_none : (boxes opened : List (Option (Box Directory))) (slot : ℕ) (name : List ℕ) (is_subdir : Bool) → opened ≡ slice_set boxes slot None
    → box_in boxes slot ≡ None → (is_subdir ≡ true → 0 < subdirs_at (map directory_in boxes) slot)
    → map directory_in opened ≡ slice_set (map directory_in boxes) slot (without_child name is_subdir (get_or (map directory_in boxes) slot empty_directory))
removed_none boxes opened slot name is_subdir taken none counted =
    let is : get_or (map directory_in boxes) slot empty_directory ≡ empty_directory = directory_read boxes slot ∙ ap directory_in none in
    let same = left_as_is name is_subdir (get_or (map directory_in boxes) slot empty_directory) is (λ t. subst (λ n. 0 < n) (subdirs_told (map directory_in boxes) slot) (counted t)) in
    ap (map directory_in) taken ∙ taken_away boxes slot (ap directory_in none)
    ∙ sym (ap (λ x. slice_set (map directory_in boxes) slot x) same ∙ set-get_or (map directory_in boxes) slot empty_directory)

-- no name is above a bound in a directory without children
pub nothing_above : (d : Directory) (bound : Option (List ℕ)) → d ≡ empty_directory → AreAbove d.index bound []
unfolding AreAbove
nothing_above d bound is name above = ap (λ (x : Directory). get x.index name) is ∙ get-empty (slice_cmp nat_cmp) name

pub none_held : (n : ℕ) → map directory_in (replicate n None) ≡ replicate n empty_directory
none_held zero = refl
none_held (suc n) = ap (λ (ds : List Directory). empty_directory ∷ ds) (none_held n)

pub always_err : {T E P : Type 0} (r : Result T E) → P → OnErr r P
always_err (Ok x) p = tt
always_err (Err e) p = p

-- ---- what a name requires of the directory that it enters

module _ (ds : List Directory) (slot : ℕ) (name : List ℕ) (room : HasRoomFor ds slot name) (d : Directory) (is : d ≡ get_or ds slot empty_directory) where
  pub room_few : d.subdirs + 1 < 2 ^ 64
  room_few = let told = subdirs_read ds slot d room.within is in let few = room.few in omega (arith, told, few)

  pub room_few_names : len d.index < 2 ^ 32
  room_few_names = let told = names_read ds slot d room.within is in let few = room.few_names in omega (arith, told, few)

  pub room_absent : get d.index name ≡ None
  room_absent = sym (entry_read ds slot d name room.within is) ∙ room.absent
