-- The indexes are right if there is only the root, and they stay right when marks change.
use Rattle.std.proofs.Common.{◌≡◌, inl, inr, ℕ, zero, suc, ◌+◌, ◌<◌, ◌^◌, refl, ap, arith, sym, ◌∙◌, subst, Bool, true, false, cond, List, [], ◌∷◌, slice_set, length-set, replicate}
use Rattle.std.specs.Prelude.{Option, None, Some, slice_get, count_by, fold, ◌&&◌}
use Rattle.std.specs.Option.{option_map, option_and_then}
use Rattle.std.specs.FinMap.{get-empty}
use Rattle.std.specs.Ordering.{nat_cmp}
use Rattle.std.specs.Cmp.Lexicographic.{slice_cmp}
use Rattle.std.proofs.lemmas.Option.{same_Some, none-some, slice_get_within}
use Rattle.std.proofs.lemmas.List.{length-replicate}
use Rattle.std.proofs.lemmas.Bool.Decides.{eqb_tells}
use Rattle.kf_core.specs.declared.key.Key.{Key}
use Rattle.kf_core.specs.declared.records.Record.{Record}
use Rattle.kf_core.specs.Tree.{Tree, IsIn, is_dir}
use Rattle.kf_core.specs.Lawful.{root_record}
use Rattle.kf_core.specs.Commands.{root_alone, doomed_record, hidden_record, activated_record}
use Rattle.kf_table.specs.declared.directory.Directory.{Directory}
use Rattle.kf_table.specs.Changes.{with_changed_slot, activated_unless_doomed}
use Rattle.kf_table.specs.Directories.{empty_directory, entry_at, subdirs_at, is_slot_of, is_subdir_in, IsEntry, AreKept}
use Rattle.kf_core.proofs.Lists.{slice_get-set_same, slice_get-set_other}
use Rattle.kf_table.proofs.Kept.{counted, count_written}

-- the two records have the same key, parent, name and node
pub record SamePlace (r s : Record) : Type 0 where
  pub key : r.key ≡ s.key
  pub parent : r.parent ≡ s.parent
  pub name : r.name ≡ s.name
  pub node : r.node ≡ s.node

set_past : {X : Type 0} (xs : List X) (i : ℕ) (v : X) → slice_get xs i ≡ None → slice_set xs i v ≡ xs
set_past [] i v h = refl
set_past (x ∷ xs) zero v h = absurd (none-some x (sym h))
set_past (x ∷ xs) (suc i) v h = ap (λ r. x ∷ r) (set_past xs i v h)

module _ (f : Record → Record) (same : (r : Record) → SamePlace (f r) r) (t : Tree) (ds : List Directory) (kept : AreKept t ds) (slot : ℕ) where
  module _ (place : Option Record) (is : slice_get t slot ≡ Some place) where
    abbrev changed : Tree
    changed = slice_set t slot (option_map f place)

    written : slice_get changed slot ≡ Some (option_map f place)
    written = slice_get-set_same t slot (option_map f place) (slice_get_within t slot place is)

    from_changed : (c : Record) → IsIn changed c → (r : Record) × IsIn t r × SamePlace c r
    from_changed c h = elim (eqb_tells c.key.slot slot) [
      | inr e ↦ (c, sym (slice_get-set_other t slot c.key.slot (option_map f place) e.1) ∙ h, record { key = refl; parent = refl; name = refl; node = refl })
      | inl e ↦ (let new : option_map f place ≡ Some c = same_Some _ _ (sym written ∙ ap (slice_get changed) (sym e.1) ∙ h) in
          go place refl new e.1)
    ]
      where
        go : (o : Option Record) → place ≡ o → option_map f o ≡ Some c → c.key.slot ≡ slot → (r : Record) × IsIn t r × SamePlace c r
        go None p new at = absurd (none-some c new)
        go (Some r) p new at =
            let c_is : f r ≡ c = same_Some (f r) c new in
            let key : r.key ≡ c.key = sym (same r).key ∙ ap (λ (x : Record). x.key) c_is in (
              r,
              ap (λ (k : Key). slice_get t k.slot) key ∙ ap (slice_get t) at ∙ is ∙ ap Some p,
              subst (λ (x : Record). SamePlace x r) c_is (same r),
            )

    to_changed : (r : Record) → IsIn t r → (c : Record) × IsIn changed c × SamePlace c r
    to_changed r h = elim (eqb_tells r.key.slot slot) [
      | inr e ↦ (r, slice_get-set_other t slot r.key.slot (option_map f place) e.1 ∙ h, record { key = refl; parent = refl; name = refl; node = refl })
      | inl e ↦ (let here : place ≡ Some r = same_Some _ _ (sym is ∙ ap (slice_get t) (sym e.1) ∙ h) in
          (f r, ap (λ (k : Key). slice_get changed k.slot) (same r).key ∙ ap (slice_get changed) e.1 ∙ written ∙ ap (λ o. Some (option_map f o)) here, same r))
    ]

    same_test : (s : ℕ) (o : Option Record) → is_subdir_in s (option_map f o) ≡ is_subdir_in s o
    same_test s None = refl
    same_test s (Some r) = ap (λ p. is_slot_of s p && is_dir (f r).node) (same r).parent ∙ ap (λ n. is_slot_of s r.parent && is_dir n) (same r).node

    kept_at : AreKept changed ds
    kept_at = record {
      as_many = kept.as_many ∙ sym (length-set t slot _);
      few = rw (length-set t slot (option_map f place)) kept.few;
      entries = λ s name key. (
        (λ h. let i = (kept.entries s name key).0 h in let c = to_changed i.child i.is_in in record {
          child = c.0;
          is_in = c.1;
          has_key = c.2.key ∙ i.has_key;
          dir = i.dir;
          parent = c.2.parent ∙ i.parent;
          in_slot = i.in_slot;
          named = c.2.name ∙ i.named;
        }),
        (λ i. let r = from_changed i.child i.is_in in (kept.entries s name key).1 (record {
          child = r.0;
          is_in = r.1;
          has_key = sym r.2.key ∙ i.has_key;
          dir = i.dir;
          parent = sym r.2.parent ∙ i.parent;
          in_slot = i.in_slot;
          named = sym r.2.name ∙ i.named;
        })),
      );
      counted = λ s low.
          let w = count_written (is_subdir_in s) t slot place (option_map f place) is in
          let one = ap counted (same_test s place) in
          let was = kept.counted s (rw (length-set t slot (option_map f place)) at low) in
          was ∙ omega (arith, w, one);
    }

  -- the indexes stay right after a change that leaves each record in its place
  pub kept_changed : AreKept (with_changed_slot f t slot) ds
  kept_changed = elim (slice_get t slot) as (λ o. slice_get t slot ≡ o → AreKept (slice_set t slot (option_and_then (option_map f) o)) ds) [
    | None ↦ λ e. subst (λ (x : Tree). AreKept x ds) (sym (set_past t slot None e)) kept
    | Some place ↦ λ e. kept_at place e
  ] refl

pub doomed_stays : (r : Record) → SamePlace (doomed_record r) r
doomed_stays r = record { key = refl; parent = refl; name = refl; node = refl }

pub hidden_stays : (b : Bool) (r : Record) → SamePlace (hidden_record b r) r
hidden_stays b r = record { key = refl; parent = refl; name = refl; node = refl }

pub activated_stays : (r : Record) → SamePlace (activated_unless_doomed r) r
activated_stays r = elim r.marks.doomed as (λ b. SamePlace (cond b r (activated_record r)) r) [
  | true ↦ record { key = refl; parent = refl; name = refl; node = refl }
  | false ↦ record { key = refl; parent = refl; name = refl; node = refl }
]

-- ---- only the root

-- this many slots, none of which has a record
abbrev nobody : ℕ → Tree
nobody n = replicate n None

none_at : (n slot : ℕ) (c : Record) → slice_get (replicate n None) slot ≡ Some (Some c) → ⊥
none_at zero slot c h = none-some (Some c) h
none_at (suc n) zero c h = none-some c (same_Some None (Some c) h)
none_at (suc n) (suc slot) c h = none_at n slot c h

no_entry : (n slot : ℕ) (q : List ℕ) → entry_at (replicate n empty_directory) slot q ≡ None
no_entry zero slot q = refl
no_entry (suc n) zero q = get-empty (slice_cmp nat_cmp) q
no_entry (suc n) (suc slot) q = no_entry n slot q

no_subdirs : (n slot : ℕ) → subdirs_at (replicate n empty_directory) slot ≡ 0
no_subdirs zero slot = refl
no_subdirs (suc n) zero = refl
no_subdirs (suc n) (suc slot) = no_subdirs n slot

none_counted : (slot n k : ℕ) → fold (λ a x. a + cond (is_subdir_in slot x) 1 0) k (replicate n None) ≡ k
none_counted slot zero k = refl
none_counted slot (suc n) k = none_counted slot n (k + 0) ∙ omega arith

vacant_at : (n slot : ℕ) → slot < n → slice_get (nobody n) slot ≡ Some None
vacant_at zero slot low = absurd (omega (arith, low))
vacant_at (suc n) zero low = refl
vacant_at (suc n) (suc slot) low = vacant_at n slot (omega (arith, low))

pub kept_opening : (n : ℕ) (root : Key) → n < 2 ^ 32 → root.slot < n → AreKept (root_alone n root) (replicate n empty_directory)
kept_opening n root few low = record {
  as_many = length-replicate n empty_directory ∙ sym (length-replicate {A = Option Record} n None) ∙ sym (length-set (replicate n None) root.slot _);
  few = rw (length-set (nobody n) root.slot (Some (root_record root)), length-replicate {A = Option Record} n None) few;
  entries = λ slot name key. (
    (λ h. absurd (none-some key (sym (no_entry n slot name) ∙ h))),
    (λ i. absurd (orphan slot name key i)),
  );
  counted = λ slot _. no_subdirs n slot ∙ counts slot;
}
  where
    counts : (slot : ℕ) → 0 ≡ count_by (is_subdir_in slot) (root_alone n root)
    counts slot =
        let w = count_written (is_subdir_in slot) (nobody n) root.slot None (Some (root_record root)) (vacant_at n root.slot low) in
        let none = none_counted slot n 0 in
        omega (arith, w, none)

    orphan : (slot : ℕ) (name : List ℕ) (key : Key) → IsEntry (root_alone n root) slot name key → ⊥
    orphan slot name key i = elim (eqb_tells i.child.key.slot root.slot) [
      | inl e ↦ (let is : root_record root ≡ i.child = same_Some _ _ (same_Some (Some (root_record root)) (Some i.child)
          (sym (slice_get-set_same (nobody n) root.slot (Some (root_record root)) (slice_get_within (nobody n) root.slot None (vacant_at n root.slot low))) ∙ ap (slice_get (root_alone n root)) (sym e.1) ∙ i.is_in)) in
          none-some i.dir (ap (λ (x : Record). x.parent) is ∙ i.parent))
      | inr e ↦ none_at n i.child.key.slot i.child (sym (slice_get-set_other (nobody n) root.slot i.child.key.slot (Some (root_record root)) e.1) ∙ i.is_in)
    ]
