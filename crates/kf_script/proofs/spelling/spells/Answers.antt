use Rattle.std.proofs.Common.{◌<◌, length, arith}
use Rattle.kf_script.proofs.Spelled.{alike, alike-more}
use Rattle.kf_script.proofs.spelling.spells.Goals as goal

pub loop-at-preserved : goal.loop-at-preserved
loop-at-preserved c =
    let word = c.args.word.now in
    let inside : c.loop-at.at < length word = omega (arith, c.if-word-text.false, c.loop-at-test.true) in
    alike-more word c.args.text.now c.loop-at.at inside c.loop-at-test.true c.loop-at.invariant c.if-word-at.false

pub returns : goal.returns
returns c = alike c.args.word.now c.args.text.now c.loop-at.at c.if-word-text.false c.loop-at-test.false c.loop-at.invariant
