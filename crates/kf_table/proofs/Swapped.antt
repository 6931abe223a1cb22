-- Entering one name and removing another makes the same indexes in either order.
use Rattle.std.proofs.Common.{◌≡◌, inl, inr, ℕ, ◌+◌, ◌-◌, ◌<◌, refl, ap, arith, sym, ◌∙◌, Bool, true, false, cond, List, length, length-set, get_or}
use Rattle.std.specs.Prelude.{Some}
use Rattle.std.proofs.lemmas.Bool.Decides.{eqb_tells}
use Rattle.kf_core.specs.declared.key.Key.{Key}
use Rattle.kf_core.specs.Tree.{Tree}
use Rattle.kf_table.specs.declared.directory.Directory.{Directory}
use Rattle.kf_table.specs.Directories.{empty_directory, with_child, without_child, with_entry, without_entry, entry_at, subdirs_at, AreKept}
use Rattle.kf_table.proofs.Entries.{entries_tell, entered_there, entered_elsewhere, entered_counted, left_there, left_elsewhere, left_counted, subdirs_elsewhere}

pub kept_along : (t : Tree) (ds es : List Directory) → AreKept t ds → length es ≡ length ds
    → ((slot : ℕ) (q : List ℕ) → entry_at es slot q ≡ entry_at ds slot q) → ((slot : ℕ) → subdirs_at es slot ≡ subdirs_at ds slot) → AreKept t es
kept_along t ds es kept len same counts = record {
  as_many = len ∙ kept.as_many;
  few = kept.few;
  entries = λ slot name key. (
    (λ h. (kept.entries slot name key).0 (sym (same slot name) ∙ h)),
    (λ i. same slot name ∙ (kept.entries slot name key).1 i),
  );
  counted = λ slot low. counts slot ∙ kept.counted slot low;
}

-- entering one name and removing another, in either order
module _ (ds : List Directory) (at : ℕ) (name : List ℕ) (key : Key) (b : Bool) (p : Key) (old : List ℕ)
    (at_low : at < length ds) (p_low : p.slot < length ds) (apart : at ≡ p.slot → name ≡ old → ⊥) (counts : b ≡ true → 0 < subdirs_at ds p.slot) where
  abbrev with_new : List Directory
  with_new = with_entry at name key b ds

  abbrev without_old : List Directory
  without_old = without_entry (Some p) old b ds

  new_p_low : p.slot < length with_new
  new_p_low = rw (length-set ds at (with_child name key b (get_or ds at empty_directory))) p_low

  old_at_low : at < length without_old
  old_at_low = rw (length-set ds p.slot (without_child old b (get_or ds p.slot empty_directory))) at_low

  pub swap_length : length (without_entry (Some p) old b with_new) ≡ length (with_entry at name key b without_old)
  swap_length = length-set with_new p.slot _ ∙ length-set ds at _ ∙ sym (length-set ds p.slot _) ∙ sym (length-set without_old at _)

  pub swap_entries : (slot : ℕ) (q : List ℕ) → entry_at (without_entry (Some p) old b with_new) slot q ≡ entry_at (with_entry at name key b without_old) slot q
  swap_entries slot q = elim (entries_tell slot at q name) [
    | inl here ↦ elim (entries_tell slot p.slot q old) [
      | inl both ↦ absurd (apart (sym here.0 ∙ both.0) (sym here.1 ∙ both.1))
      | inr other ↦ left_elsewhere with_new p.slot new_p_low old b slot q other
          ∙ ap (λ i. entry_at with_new i q) here.0 ∙ ap (entry_at with_new at) here.1 ∙ entered_there ds at at_low name key b
          ∙ sym (ap (λ i. entry_at (with_entry at name key b without_old) i q) here.0 ∙ ap (entry_at (with_entry at name key b without_old) at) here.1 ∙ entered_there without_old at old_at_low name key b)
    ]
    | inr not_here ↦ elim (entries_tell slot p.slot q old) [
      | inl gone ↦ ap (λ i. entry_at (without_entry (Some p) old b with_new) i q) gone.0 ∙ ap (entry_at (without_entry (Some p) old b with_new) p.slot) gone.1 ∙ left_there with_new p.slot new_p_low old b
          ∙ sym (entered_elsewhere without_old at old_at_low name key b slot q not_here ∙ ap (λ i. entry_at without_old i q) gone.0 ∙ ap (entry_at without_old p.slot) gone.1 ∙ left_there ds p.slot p_low old b)
      | inr other ↦ left_elsewhere with_new p.slot new_p_low old b slot q other ∙ entered_elsewhere ds at at_low name key b slot q not_here
          ∙ sym (entered_elsewhere without_old at old_at_low name key b slot q not_here ∙ left_elsewhere ds p.slot p_low old b slot q other)
    ]
  ]

  back : (b' : Bool) (n : ℕ) → (b' ≡ true → 0 < n) → cond b' (cond b' (n + 1) n - 1) (cond b' (n + 1) n) ≡ cond b' (cond b' (n - 1) n + 1) (cond b' (n - 1) n)
  back true n more = let m = more refl in omega (arith, m)
  back false n more = refl

  pub swap_counts : (slot : ℕ) → subdirs_at (without_entry (Some p) old b with_new) slot ≡ subdirs_at (with_entry at name key b without_old) slot
  swap_counts slot = elim (eqb_tells slot p.slot) [
    | inl e ↦ elim (eqb_tells slot at) [
      | inl e' ↦ (let n = subdirs_at ds slot in
          let first : subdirs_at with_new slot ≡ cond b (n + 1) n = ap (subdirs_at with_new) e'.1 ∙ entered_counted ds at at_low name key b ∙ ap (λ i. cond b (subdirs_at ds i + 1) (subdirs_at ds i)) (sym e'.1) in
          let then : subdirs_at without_old slot ≡ cond b (n - 1) n = ap (subdirs_at without_old) e.1 ∙ left_counted ds p.slot p_low old b ∙ ap (λ i. cond b (subdirs_at ds i - 1) (subdirs_at ds i)) (sym e.1) in
          let left_side : subdirs_at (without_entry (Some p) old b with_new) slot ≡ cond b (subdirs_at with_new slot - 1) (subdirs_at with_new slot) =
          ap (subdirs_at (without_entry (Some p) old b with_new)) e.1 ∙ left_counted with_new p.slot new_p_low old b ∙ ap (λ i. cond b (subdirs_at with_new i - 1) (subdirs_at with_new i)) (sym e.1) in
          let right_side : subdirs_at (with_entry at name key b without_old) slot ≡ cond b (subdirs_at without_old slot + 1) (subdirs_at without_old slot) =
          ap (subdirs_at (with_entry at name key b without_old)) e'.1 ∙ entered_counted without_old at old_at_low name key b ∙ ap (λ i. cond b (subdirs_at without_old i + 1) (subdirs_at without_old i)) (sym e'.1) in
          left_side ∙ ap (λ m. cond b (m - 1) m) first ∙ back b n (λ t. rw e.1 (counts t)) ∙ sym (right_side ∙ ap (λ m. cond b (m + 1) m) then))
      | inr n' ↦ ap (subdirs_at (without_entry (Some p) old b with_new)) e.1 ∙ left_counted with_new p.slot new_p_low old b
          ∙ ap (λ m. cond b (m - 1) m) (subdirs_elsewhere ds at at_low _ p.slot (λ s. n'.1 (e.1 ∙ s))) ∙ sym (left_counted ds p.slot p_low old b) ∙ ap (subdirs_at without_old) (sym e.1)
          ∙ sym (subdirs_elsewhere without_old at old_at_low _ slot n'.1)
    ]
    | inr n ↦ subdirs_elsewhere with_new p.slot new_p_low _ slot n.1 ∙ elim (eqb_tells slot at) [
      | inl e' ↦ ap (subdirs_at with_new) e'.1 ∙ entered_counted ds at at_low name key b
          ∙ ap (λ m. cond b (m + 1) m) (sym (subdirs_elsewhere ds p.slot p_low _ at (λ s. n.1 (e'.1 ∙ s)))) ∙ sym (entered_counted without_old at old_at_low name key b)
          ∙ ap (subdirs_at (with_entry at name key b without_old)) (sym e'.1)
      | inr n' ↦ subdirs_elsewhere ds at at_low _ slot n'.1 ∙ sym (subdirs_elsewhere ds p.slot p_low _ slot n.1) ∙ sym (subdirs_elsewhere without_old at old_at_low _ slot n'.1)
    ]
  ]
