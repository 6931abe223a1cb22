-- The tree that has only the root agrees with the opening world.
use Rattle.std.proofs.Common.{◌≡◌, inl, inr, ℕ, zero, suc, ◌+◌, ◌≤◌, refl, arith, sym, ◌∙◌, Bool, true, false, cond, length, replicate, ◌==◌}
use Rattle.std.specs.Prelude.{Option, None, Some, slice_get}
use Rattle.std.specs.Option.{option_map, option_and_then}
use Rattle.std.proofs.lemmas.List.{length-replicate}
use Rattle.std.proofs.lemmas.Bool.Decides.{eqb_tells}
use Rattle.kf_core.specs.declared.key.Key.{Key}
use Rattle.kf_core.specs.declared.slot.NodeFlags.{NodeFlags}
use Rattle.kf_core.specs.declared.slot.SlotState.{SlotState}
use Rattle.kf_core.specs.declared.records.Record.{Record}
use Rattle.kf_core.specs.Marks.{live_marks}
use Rattle.kf_core.specs.Bare.{marks, marks_in, opening}
use Rattle.kf_core.specs.Tree.{with_key, marks_of}
use Rattle.kf_core.specs.Lawful.{root_record}
use Rattle.kf_core.specs.Commands.{root_alone}
use Rattle.kf_core.proofs.Lists.{length_set}

abbrev pub root_key : ℕ → Key
root_key start = record { slot = 0; generation = start + 1 }

-- each slot is empty in both, or has the root in both
empty_slot : (start slot : ℕ) (n : ℕ) (key : Key) → marks_in (slice_get (replicate n (let s : SlotState = record { generation = start; marks = None } in s)) slot) key.generation ≡ option_map (λ (r : Record). r.marks) (option_and_then (with_key key) (slice_get (replicate n (let o : Option Record = None in o)) slot))
empty_slot start slot zero key = refl
empty_slot start zero (suc n) key = nothing (start == key.generation)
  where
    nothing : (b : Bool) → cond {A = Option NodeFlags} b None None ≡ None
    nothing true = refl
    nothing false = refl
empty_slot start (suc slot) (suc n) key = empty_slot start slot n key

root_slot : (start : ℕ) (key : Key) → key.slot ≡ 0 → marks_in (Some (let s : SlotState = record { generation = start + 1; marks = Some live_marks } in s)) key.generation ≡ option_map (λ (r : Record). r.marks) (with_key key (Some (root_record (root_key start))))
root_slot start key e = go (start + 1 == key.generation) refl (0 == key.slot) refl
  where
    go : (g : Bool) → (start + 1 == key.generation) ≡ g → (s : Bool) → (0 == key.slot) ≡ s → marks_in (Some (let s : SlotState = record { generation = start + 1; marks = Some live_marks } in s)) key.generation ≡ option_map (λ (r : Record). r.marks) (with_key key (Some (root_record (root_key start))))
    go true g true s = rw (g, s) refl
    go false g true s = rw (g, s) refl
    go g h false s = absurd (elim (eqb_tells 0 key.slot) [ inl x ↦ (let y = sym x.0 ∙ s in cc) | inr x ↦ x.1 (sym e) ])

pub same_opening : (count start : ℕ) (key : Key) → 1 ≤ count → marks (opening count start) key ≡ marks_of (root_alone count (root_key start)) key
same_opening zero start key some = absurd (omega (arith, some))
same_opening (suc n) start key some = elim key.slot as (λ s. key.slot ≡ s → marks_in (slice_get (opening (suc n) start).slots s) key.generation ≡ option_map (λ (r : Record). r.marks) (option_and_then (with_key key) (slice_get (root_alone (suc n) (root_key start)) s))) [
  | zero ↦ λ e. root_slot start key e
  | suc s ↦ λ e. empty_slot start s n key
] refl

pub length_opening : (count start : ℕ) → length (opening count start).slots ≡ length (root_alone count (root_key start))
length_opening count start =
    length_set (replicate count (let s : SlotState = record { generation = start; marks = None } in s)) 0 _ ∙ length-replicate count _
    ∙ sym (length_set (replicate count (let o : Option Record = None in o)) 0 _ ∙ length-replicate count _)
