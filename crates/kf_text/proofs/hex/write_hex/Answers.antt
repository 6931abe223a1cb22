use Rattle.std.proofs.Common.{◌-◌, ◌∙◌, length-set, arith}
use Rattle.kf_text.proofs.Hexes.{begun, ended, more}
use Rattle.kf_text.proofs.hex.write_hex.Goals as goal

pub loop-at-init : goal.loop-at-init
loop-at-init c = (omega arith, c.told-bytes, begun c.args.bytes.now c.args.number c.told-bytes)

pub loop-at-preserved : goal.loop-at-preserved
loop-at-preserved c =
    let l = c.loop-at in
    let long = length-set l.bytes (l.at - 1) c.digit.result ∙ l.invariant.1 in (
      omega arith,
      long,
      more l.at l.rest c.args.number c.digit.result l.bytes c.loop-at-test.true
          (omega (arith, l.invariant)) c.digit.ensures.byte c.if-rest-eq0.false l.invariant.2,
    )

pub returns-then-rest-eq0 : goal.returns-then-rest-eq0
returns-then-rest-eq0 c =
    let l = c.loop-at in
    record {
      within = omega (arith, l.invariant);
      digits = ended l.at l.rest c.args.number c.digit.result l.bytes c.loop-at-test.true
          (omega (arith, l.invariant)) c.digit.ensures.byte c.if-rest-eq0.true l.invariant.2;
    }
