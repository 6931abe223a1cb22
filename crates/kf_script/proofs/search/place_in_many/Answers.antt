use Rattle.std.proofs.Common.{arith}
use Rattle.kf_script.proofs.Places.{first_place, in_next}
use Rattle.kf_script.proofs.search.place_in_many.Goals as goal

pub returns-then-next-lt16 : goal.returns-then-next-lt16
returns-then-next-lt16 c = record {
  place = in_next c.args.byte c.args.bytes.now 16 16 _ _ (omega arith) (omega (arith, c.requires.length))
      c.before_in_16-first.ensures (omega (arith, c.if-first-lt16.false)) c.before_in_16-next.ensures c.if-next-lt16.true;
}

pub returns : goal.returns
returns c = record {
  place = first_place c.args.byte c.args.bytes.now c.memchr.result c.memchr.ensures;
}
