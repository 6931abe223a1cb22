-- One write of a slot, and what it does to the marks of each key.
use Rattle.std.proofs.Common.{◌≡◌, ◌≢◌, inl, inr, ℕ, ◌<◌, refl, ap, sym, ◌∙◌, subst, Bool, true, false, cond, List, length, slice_set}
use Rattle.std.specs.Prelude.{Option, None, Some, slice_get, ◌==◌}
use Rattle.std.proofs.lemmas.Option.{none-some, slice_get_within}
use Rattle.std.proofs.lemmas.Bool.Decides.{eqb_tells}
use Rattle.kf_core.specs.declared.key.Key.{Key}
use Rattle.kf_core.specs.declared.slot.NodeFlags.{NodeFlags}
use Rattle.kf_core.specs.declared.slot.SlotState.{SlotState}
use Rattle.kf_core.specs.Bare.{marks_in}
use Rattle.kf_core.specs.Keys.{same_key}
use Rattle.kf_core.proofs.Climbs.{keys_tell, same_key_self, same_parts}
use Rattle.kf_core.proofs.Lists.{slice_get-set_same, slice_get-set_other, length_set}
use Rattle.kf_tree.specs.SlotMarks.{marks_at}

-- the slots after the key's slot is written, with the key's generation and these marks
abbrev pub written : List SlotState → Key → Option NodeFlags → List SlotState
written slots key m = slice_set slots key.slot (record { generation = key.generation; marks = m })

-- the slot of the key exists, and no node is linked in it
pub record IsEmpty (slots : List SlotState) (key : Key) : Type 0 where
  pub last : ℕ
  pub vacant : slice_get slots key.slot ≡ Some (record { generation = last; marks = None })

-- the slot of the key exists, and no other key is linked in it
pub record IsAlone (slots : List SlotState) (key : Key) : Type 0 where
  pub within : key.slot < length slots
  pub alone : (other : Key) → other.slot ≡ key.slot → other ≢ key → marks_at slots other ≡ None

pub marks_written : (slots : List SlotState) (key k : Key) (m : Option NodeFlags) → IsAlone slots key → marks_at (written slots key m) k ≡ cond (same_key key k) m (marks_at slots k)
marks_written slots key k m own = elim (keys_tell key k) [
  | inl e ↦ subst (λ x. marks_at (written slots key m) x ≡ cond (same_key key x) m (marks_at slots x)) e.1 (here ∙ sym (ap (λ b. cond b m (marks_at slots key)) (same_key_self key)))
  | inr n ↦ elim (eqb_tells k.slot key.slot) [
    | inl s ↦ ap (λ x. marks_in (slice_get (written slots key m) x) k.generation) s.1 ∙ ap (λ o. marks_in o k.generation) there ∙ ap (λ b. cond b m None) (other n.1 s.1) ∙ sym (own.alone k s.1 (λ e. n.1 (sym e)))
    | inr d ↦ ap (λ o. marks_in o k.generation) (slice_get-set_other slots key.slot k.slot (record { generation = key.generation; marks = m }) d.1)
  ] ∙ sym (ap (λ b. cond b m (marks_at slots k)) n.0)
]
  where
    there : slice_get (written slots key m) key.slot ≡ Some (record { generation = key.generation; marks = m })
    there = slice_get-set_same slots key.slot (record { generation = key.generation; marks = m }) own.within

    here : marks_at (written slots key m) key ≡ m
    here = ap (λ o. marks_in o key.generation) there ∙ (elim (eqb_tells key.generation key.generation) [ inl y ↦ ap (λ b. cond b m None) y.0 | inr n ↦ absurd (n.1 refl) ])

    other : key ≢ k → k.slot ≡ key.slot → (key.generation == k.generation) ≡ false
    other n s = elim (eqb_tells key.generation k.generation) [ inl g ↦ absurd (n (same_parts key k (sym s) g.1)) | inr g ↦ g.0 ]

-- a linked node is in its slot
pub linked_slot : (slots : List SlotState) (key : Key) (m : NodeFlags) → marks_at slots key ≡ Some m → slice_get slots key.slot ≡ Some (record { generation = key.generation; marks = Some m })
linked_slot slots key m h = go (slice_get slots key.slot) refl
  where
    go : (o : Option SlotState) → slice_get slots key.slot ≡ o → slice_get slots key.slot ≡ Some (record { generation = key.generation; marks = Some m })
    go None e = absurd (none-some m (sym (ap (λ o. marks_in o key.generation) e) ∙ h))
    go (Some p) e = elim (eqb_tells p.generation key.generation) [
      | inl g ↦ (let is : p.marks ≡ Some m = sym (ap (λ b. cond b p.marks None) g.0) ∙ (sym (ap (λ o. marks_in o key.generation) e) ∙ h) in
          let place : ℕ → Option NodeFlags → SlotState = λ n x. record { generation = n; marks = x } in
          e ∙ ap (λ n. Some (place n p.marks)) g.1 ∙ ap (λ x. Some (place key.generation x)) is)
      | inr g ↦ absurd (none-some m (sym (ap (λ b. cond b p.marks None) g.0) ∙ (sym (ap (λ o. marks_in o key.generation) e) ∙ h)))
    ]

pub alone_linked : (slots : List SlotState) (key : Key) (m : NodeFlags) → marks_at slots key ≡ Some m → IsAlone slots key
alone_linked slots key m h = record {
  within = slice_get_within slots key.slot _ at;
  alone = λ other s n. ap (λ x. marks_in (slice_get slots x) other.generation) s ∙ ap (λ o. marks_in o other.generation) at ∙ (elim (eqb_tells key.generation other.generation) [
    | inl g ↦ absurd (n (same_parts other key s (sym g.1)))
    | inr g ↦ ap (λ b. cond b (Some m) None) g.0
  ]);
}
  where
    at : slice_get slots key.slot ≡ Some (record { generation = key.generation; marks = Some m })
    at = linked_slot slots key m h

-- no node is linked in a vacant slot
pub nobody_vacant : (slots : List SlotState) (slot last : ℕ) (other : Key) → slice_get slots slot ≡ Some (record { generation = last; marks = None }) → other.slot ≡ slot → marks_at slots other ≡ None
nobody_vacant slots slot last other v s = ap (λ x. marks_in (slice_get slots x) other.generation) s ∙ ap (λ o. marks_in o other.generation) v ∙ either (last == other.generation)
  where
    either : (b : Bool) → cond {A = Option NodeFlags} b None None ≡ None
    either true = refl
    either false = refl

pub alone_vacant : (slots : List SlotState) (key : Key) → IsEmpty slots key → IsAlone slots key
alone_vacant slots key v = record {
  within = slice_get_within slots key.slot _ v.vacant;
  alone = λ other s n. nobody_vacant slots key.slot v.last other v.vacant s;
}

pub length_written : (slots : List SlotState) (key : Key) (m : Option NodeFlags) → length (written slots key m) ≡ length slots
length_written slots key m = length_set slots key.slot _
