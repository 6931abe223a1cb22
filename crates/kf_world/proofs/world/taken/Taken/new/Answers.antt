-- In words that are 0 no bit is set, and no group is marked.
use Rattle.std.proofs.Common.{rules, ◌≡◌, ℕ, ap, sym, ◌∙◌, true, false, arith, replicate, inl, inr, ◌+◌, ◌/◌, ◌%◌}
use Rattle.std.specs.Int.{bit_at}
use Rattle.std.proofs.lemmas.Nat.Bits.{bit_at-zero}
use Rattle.std.specs.Prelude.{slice_get}
use Rattle.kf_world.proofs.OneItem.{zeros_read}
use Rattle.kf_world.proofs.OneItem.{same_item}
use Rattle.kf_world.proofs.world.taken.Taken.new.Goals as goal

unset : (x : ℕ) → x ≡ 0 → x ≡ 1 → ⊥
unset x zero one = omega (arith, zero, one)

unmarked : true ≡ false → ⊥
unmarked e = cc

pub returns-clause-none : goal.returns-clause-none
returns-clause-none c = λ slot marked.
    let words : c.in_ok-vec.field-0.items ≡ replicate (c.block_of.result + 1) 0 = search rules in
    let groups : c.in_ok-vec-2.field-0.items ≡ replicate (c.group_of.result + 1) false = search rules in
    elim marked [
      | inl set ↦ unset _ (ap (λ (x : ℕ). bit_at x (slot % 64)) (zeros_read c.in_ok-vec.field-0.items (c.block_of.result + 1) (slot / 64) words) ∙ bit_at-zero (slot % 64)) set
      | inr set ↦ unmarked (same_item (c.group_of.result + 1) (slot / 4096) false true (ap (λ l. slice_get l (slot / 4096)) (sym groups) ∙ set))
    ]
