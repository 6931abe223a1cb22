use Rattle.std.proofs.Common.{◌-◌, length, arith}
use Rattle.kf_script.proofs.Places.{in_neither, in_next}
use Rattle.kf_script.proofs.search.place_by_8.Goals as goal

pub returns-then-last-lt8 : goal.returns-then-last-lt8
returns-then-last-lt8 c = record {
  place = in_next c.args.byte c.args.bytes.now 8 (length c.args.bytes.now - 8) _ _ (omega (arith, c.requires.length)) (omega (arith, c.requires.length))
      c.before_in_8-first.ensures (omega (arith, c.if-first-lt8.false)) c.before_in_8-last.ensures c.if-last-lt8.true;
}

pub returns : goal.returns
returns c = record {
  place = in_neither c.args.byte c.args.bytes.now 8 (length c.args.bytes.now - 8) _ _ (omega (arith, c.requires.length)) (omega (arith, c.requires.length))
      c.before_in_8-first.ensures (omega (arith, c.if-first-lt8.false)) c.before_in_8-last.ensures (omega (arith, c.if-last-lt8.false));
}
