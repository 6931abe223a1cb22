use Rattle.std.proofs.Common.{◌-◌, length, arith}
use Rattle.kf_script.proofs.Places.{in_neither, in_next}
use Rattle.kf_script.proofs.search.place_by_16.Goals as goal

pub returns-then-last-lt16 : goal.returns-then-last-lt16
returns-then-last-lt16 c = record {
  place = in_next c.args.byte c.args.bytes.now 16 (length c.args.bytes.now - 16) _ _ (omega (arith, c.requires.length)) (omega (arith, c.requires.length))
      c.before_in_16-first.ensures (omega (arith, c.if-first-lt16.false)) c.before_in_16-last.ensures c.if-last-lt16.true;
}

pub returns : goal.returns
returns c = record {
  place = in_neither c.args.byte c.args.bytes.now 16 (length c.args.bytes.now - 16) _ _ (omega (arith, c.requires.length)) (omega (arith, c.requires.length))
      c.before_in_16-first.ensures (omega (arith, c.if-first-lt16.false)) c.before_in_16-last.ensures (omega (arith, c.if-last-lt16.false));
}
