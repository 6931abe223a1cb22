use Rattle.std.proofs.Common.{◌<◌, ◌+◌, arith}
use Rattle.kf_script.specs.Requests.{number_of}
use Rattle.kf_script.proofs.Digits.{number_of-more, number_of-front, none_above}
use Rattle.kf_script.proofs.kinds.number_up_to.Goals as goal

pub returns-then-number-greatest : goal.returns-then-number-greatest
returns-then-number-greatest c =
    let digits = c.args.digits.now in
    let i = c.loop-digit.digit-index in
    let more = number_of-more digits i 0 c.loop-digit-test.true in
    let front = number_of-front digits (i + 1) in
    let above : c.args.greatest < number_of digits = omega (arith, more, front, c.loop-digit.invariant.0, c.from.ensures, c.if-number-greatest.true) in
    none_above (number_of digits) c.args.greatest above
