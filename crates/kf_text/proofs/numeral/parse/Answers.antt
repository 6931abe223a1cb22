use Rattle.kf_text.proofs.Digits.{is_text}
use Rattle.kf_text.proofs.numeral.parse.Goals as goal

pub returns-in-Err : goal.returns-in-Err
returns-in-Err c =
    absurd (c.in-Err.ensures.cases.0 (is_text c.args.radix c.args.digits.now c.requires.high c.requires.numeral))
