-- Each block that the loop passes is marked, and no other block changes.
use Rattle.std.proofs.Common.{◌≡◌, ◌≢◌, ℕ, List, ◌<◌, inl, inr, length, length-set, set, get_or, get_or-set_same, get_or-set_other, arith, ap, sym, subst, ◌∙◌}
use Rattle.std.specs.Int.{bit_at}
use Rattle.std.proofs.lemmas.Nat.Bits.{bit_at_ones}
use Rattle.std.proofs.lemmas.Bool.Decides.{eqb_tells}
use Rattle.kf_world.proofs.world.taken.mark_blocks.Goals as goal

pub loop-place-preserved : goal.loop-place-preserved
loop-place-preserved c =
    let xs : List ℕ = c.loop-place.blocks.items in
    let at : ℕ = c.loop-place.place in
    let inv = c.loop-place.invariant in
    let ahead : (at < c.args.end) × (at < c.len.result) = (omega (arith, c.loop-place-test.true, c.min-place-end.ensures), omega (arith, c.loop-place-test.true, c.min-place-end.ensures)) in
    let here : at < length xs = omega (arith, ahead.1, c.len.ensures, inv.as_many) in
    let full : (bit : ℕ) → bit < 64 → bit_at (get_or (set xs at 18446744073709551615) at 0) bit ≡ 1 =
    λ bit few. ap (λ (x : ℕ). bit_at x bit) (get_or-set_same xs at 18446744073709551615 0 here) ∙ bit_at_ones 64 bit few in
    let other : (place bit : ℕ) → place ≢ at → bit_at (get_or (set xs at 18446744073709551615) place 0) bit ≡ bit_at (get_or xs place 0) bit =
    λ place bit n. ap (λ (x : ℕ). bit_at x bit) (get_or-set_other xs at place 18446744073709551615 0 n) in
    record {
      as_many = length-set xs at 18446744073709551615 ∙ inv.as_many;
      marked = λ place bit is. elim (eqb_tells place at) [
        | inl e ↦ inl (omega (arith, e.1, c.loop-place.auto.place), omega (arith, e.1, ahead.0))
        | inr n ↦ inv.marked place bit (sym (other place bit n.1) ∙ is)
      ];
      each = λ place bit from below within few. elim (eqb_tells place at) [
        | inl e ↦ subst (λ (p : ℕ). bit_at (get_or (set xs at 18446744073709551615) p 0) bit ≡ 1) (sym e.1) (full bit few)
        | inr n ↦ other place bit n.1 ∙ inv.each place bit from (let ne = n.1 in omega (arith, below, ne)) (omega (arith, within, length-set xs at 18446744073709551615)) few
      ];
      kept = λ place bit few is. elim (eqb_tells place at) [
        | inl e ↦ subst (λ (p : ℕ). bit_at (get_or (set xs at 18446744073709551615) p 0) bit ≡ 1) (sym e.1) (full bit few)
        | inr n ↦ other place bit n.1 ∙ inv.kept place bit few is
      ];
    }
