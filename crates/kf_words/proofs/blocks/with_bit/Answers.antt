-- One bit is set, and the others stay.
use Rattle.std.proofs.Common.{w64}
use Rattle.std.proofs.lemmas.Nat.Bits.{bit_at_set_same, bit_at_set_other}
use Rattle.kf_words.proofs.blocks.with_bit.Goals as goal

pub returns : goal.returns
returns c = record {
  set = bit_at_set_same w64 c.args.word c.args.place c.requires.bound;
  kept = bit_at_set_other w64 c.args.word c.args.place c.requires.bound;
}
