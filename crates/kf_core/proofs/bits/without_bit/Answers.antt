-- One bit is cleared, and the others stay.
use Rattle.std.proofs.Common.{◌≡◌, ◌-◌, ◌*◌, ◌%◌, ◌^◌, ◌<◌, sym, ap, subst, ◌∙◌, arith, w64, bit_and, pow_pos}
use Rattle.std.specs.Int.{bit_not}
use Rattle.std.proofs.lemmas.Nat.Bits.{bit_at_clear_same, bit_at_clear_other, bit_at_and, and_pow}
use Rattle.std.proofs.lemmas.Nat.{and-not, and_comm}
use Rattle.kf_core.proofs.OneBit.{bit_fits, one_bit}
use Rattle.kf_core.proofs.bits.without_bit.Goals as goal

pub returns-clause-cleared : goal.returns-clause-cleared
returns-clause-cleared c = bit_at_clear_same w64 c.args.word c.args.place c.requires.bound

pub returns-clause-kept : goal.returns-clause-kept
returns-clause-kept c k l apart = bit_at_clear_other w64 c.args.word c.args.place c.requires.bound k l apart

pub returns-clause-no_more : goal.returns-clause-no_more
returns-clause-no_more c k h = omega (arith, bit_at_and c.args.word (bit_not w64 (1 * 2 ^ c.args.place % 2 ^ 64)) k)

pub returns-clause-smaller : goal.returns-clause-smaller
returns-clause-smaller c set =
    let m = c.args.word in
    let k = c.args.place in
    let fits = bit_fits k c.requires.bound in
    let parts = and-not 64 (2 ^ k) m fits c.ranges.word.fits in
    let there : bit_and (2 ^ k) m ≡ 1 * 2 ^ k = and_comm _ _ ∙ and_pow m k ∙ ap (λ x. x * 2 ^ k) set in
    subst (λ x. bit_and m (2 ^ 64 - 1 - x) < m) (sym (one_bit k c.requires.bound)) (omega (arith, and_comm m (2 ^ 64 - 1 - 2 ^ k), pow_pos k))
