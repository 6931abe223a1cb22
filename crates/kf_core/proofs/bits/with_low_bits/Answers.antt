-- The low bits are those of a number one below a power of two.
use Rattle.std.proofs.Common.{◌-◌, ◌^◌, ℕ, inl, inr, sym, ap, ◌∙◌, arith, bit_or, pow_pos}
use Rattle.std.specs.Int.{bit_at}
use Rattle.std.proofs.lemmas.Nat.Bits.{bit_at_or, bit_at_ones, bit_at_ones_above, bit_at-lt}
use Rattle.std.proofs.lemmas.Bool.Decides.{leb_tells}
use Rattle.kf_core.proofs.OneBit.{one_bit}
use Rattle.kf_core.proofs.bits.with_low_bits.Goals as goal

pub overflow_sub-result : goal.overflow_sub-result
overflow_sub-result c = omega (arith, one_bit c.args.count c.requires.bound, pow_pos c.args.count)

pub returns : goal.returns
returns c =
    let m = c.args.word in
    let n = c.args.count in
    let same = λ (k : ℕ). ap (λ x. bit_at (bit_or m (x - 1)) k) (one_bit n c.requires.bound) in
    record {
      set = λ k few. same k ∙ (let a = bit_at_or m (2 ^ n - 1) k in let b = bit_at_ones n k few in let c = bit_at-lt m k in omega (arith, a, b, c));
      kept = λ k is. same k ∙ (let a = bit_at_or m (2 ^ n - 1) k in let b = bit_at-lt (2 ^ n - 1) k in omega (arith, a, b, is));
      no_more = λ k is. elim (leb_tells n k) [
        | inl past ↦ inr (let a = bit_at_or m (2 ^ n - 1) k in let b = bit_at_ones_above n k past.1 in let e = sym (same k) ∙ is in omega (arith, a, b, e))
        | inr few ↦ inl few.1
      ];
    }
