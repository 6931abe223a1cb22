use Rattle.std.proofs.Common.{◌∙◌, sym}
use Rattle.kf_script.proofs.Running.{answered-line}
use Rattle.kf_script.proofs.script.end_whole.Goals as goal

pub returns-clause-answered : goal.returns-clause-answered
returns-clause-answered g c =
    let (starved, answered) = c.answer_line.ensures in
    answered-line _ _ _ c.args.line.now _ starved _ _ c.write_line.result (sym c.is_empty.ensures ∙ c.if-is_empty.false) answered c.write_line.ensures.written
