-- Each bit of the word is flipped.
use Rattle.std.proofs.Common.{arith, w64}
use Rattle.std.proofs.lemmas.Nat.Bits.{bit_at_not, bit_at-lt}
use Rattle.kf_core.proofs.bits.other_bits.Goals as goal

pub returns : goal.returns
returns c = record { flipped = λ k few. omega (arith, bit_at_not w64 c.args.word k c.ranges.word.fits few, bit_at-lt c.args.word k) }
