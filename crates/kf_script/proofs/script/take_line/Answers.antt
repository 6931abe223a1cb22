use Rattle.std.proofs.Common.{◌∙◌, sym}
use Rattle.kf_script.proofs.Running.{running-line, kept-whole, kept_some}
use Rattle.kf_script.proofs.script.take_line.Goals as goal

pub returns-then-bytes-le-LINE_LIMIT-clause-runs : goal.returns-then-bytes-le-LINE_LIMIT-clause-runs
returns-then-bytes-le-LINE_LIMIT-clause-runs g c = λ first read start s.
    let empty = c.is_empty.ensures c.if-is_empty.true in
    running-line _ c.args.bytes.now _ _ c.end_whole.result s c.requires
    (λ whole kept.
    let same = kept_some whole c.args.bytes.now (sym (kept-whole c.args.bytes.now _ empty c.if-bytes-le-LINE_LIMIT.true) ∙ kept) in
    rw (← same) c.end_whole.ensures.answered) empty

pub returns-clause-runs : goal.returns-clause-runs
returns-clause-runs g c = λ first read start s.
    running-line _ c.args.bytes.now _ _ c.end_line-result.result s c.requires
    (λ whole kept. c.end_line-result.ensures.answered whole (c.get.ensures.line ∙ c.extend.ensures ∙ kept)) c.clear.ensures
