use Rattle.std.proofs.Common.{◌-◌, length, arith}
use Rattle.kf_script.proofs.Places.{in_neither, in_next}
use Rattle.kf_script.proofs.search.place_by_4.Goals as goal

pub returns-then-last-lt4 : goal.returns-then-last-lt4
returns-then-last-lt4 c = record {
  place = in_next c.args.byte c.args.bytes.now 4 (length c.args.bytes.now - 4) _ _ (omega (arith, c.requires.length)) (omega (arith, c.requires.length))
      c.before_in_4-first.ensures (omega (arith, c.if-first-lt4.false)) c.before_in_4-last.ensures c.if-last-lt4.true;
}

pub returns : goal.returns
returns c = record {
  place = in_neither c.args.byte c.args.bytes.now 4 (length c.args.bytes.now - 4) _ _ (omega (arith, c.requires.length)) (omega (arith, c.requires.length))
      c.before_in_4-first.ensures (omega (arith, c.if-first-lt4.false)) c.before_in_4-last.ensures (omega (arith, c.if-last-lt4.false));
}
