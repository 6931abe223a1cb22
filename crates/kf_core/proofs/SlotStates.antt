-- Marks of a node, and how a change of one place changes them.
use Rattle.std.proofs.Common.{◌≡◌, inl, inr, ℕ, refl, ap, arith, true, false, cond}
use Rattle.std.specs.Prelude.{Option, None, Some, is_some, ◌&&◌, not}
use Rattle.std.proofs.lemmas.Option.{none-some}
use Rattle.std.proofs.lemmas.Bool.{eq-eqb}
use Rattle.std.proofs.lemmas.Bool.Decides.{eqb_tells}
use Rattle.kf_core.specs.declared.slot.NodeFlags.{NodeFlags}
use Rattle.kf_core.specs.declared.slot.SlotState.{SlotState}
use Rattle.kf_core.specs.Bare.{marks_in}
use Rattle.kf_core.specs.Marks.{are_live, are_doomed}

pub live_or_doomed : (m : Option NodeFlags) → are_live m ≡ true → are_doomed m ≡ true → ⊥
live_or_doomed None l d = absurd (let e : false ≡ true = l in cc)
live_or_doomed (Some m) l d = elim (m.doomed) as (λ b. (m.activated && not b) ≡ true → b ≡ true → ⊥) [ true ↦ λ x y. grind arith | false ↦ λ x y. cc ] l d

-- what is doomed is not live
pub doomed_not_live : (m : Option NodeFlags) → are_doomed m ≡ true → are_live m ≡ false
doomed_not_live None d = refl
doomed_not_live (Some m) d = elim (m.doomed) as (λ b. b ≡ true → (m.activated && not b) ≡ false) [ true ↦ λ x. grind arith | false ↦ λ x. cc ] d

-- a live node has marks, and is not doomed
pub live_undoomed : (o : Option NodeFlags) → are_live o ≡ true → (m : NodeFlags) × (o ≡ Some m) × (m.doomed ≡ false)
live_undoomed None l = cc
live_undoomed (Some m) l = (m, refl, elim (m.doomed) as (λ b. (m.activated && not b) ≡ true → b ≡ false) [ true ↦ λ x. grind arith | false ↦ λ x. refl ] l)

pub live_linked : (m : Option NodeFlags) → are_live m ≡ true → is_some m ≡ true
live_linked None l = l
live_linked (Some m) l = refl

pub doomed_if_gone : (m : Option NodeFlags) → is_some m ≡ false → are_doomed m ≡ true
doomed_if_gone None h = refl
doomed_if_gone (Some m) h = cc

-- the slot of a linked node has the node's generation and marks
pub in_place : (o : Option SlotState) (g : ℕ) (m : NodeFlags) → marks_in o g ≡ Some m → o ≡ Some (record { generation = g; marks = Some m })
in_place None g m h = absurd (none-some m h)
in_place (Some p) g m h = elim (eqb_tells p.generation g) [
  | inl e ↦ (let is : p.marks ≡ Some m = rw e.0 at h in grind arith)
  | inr e ↦ absurd (none-some m (let is : None ≡ Some m = rw e.0 at h in is))
]

-- a slot shows its marks under its own generation
pub shown : (g : ℕ) (m : Option NodeFlags) → marks_in (Some (record { generation = g; marks = m })) g ≡ m
shown g m = ap (λ b. cond b m None) (eq-eqb g g refl)
