use Rattle.std.proofs.Common.{◌≡◌}
use Rattle.kf_script.proofs.Running.{answered-long, kept_some}
use Rattle.kf_script.proofs.script.end_line.Goals as goal

pub returns-in_default-clause-answered : goal.returns-in_default-clause-answered
returns-in_default-clause-answered g c = λ bytes kept.
    answered-long _ _ bytes _ _ c.write_line.result (rw c.in_default.is at kept) (rw c.set_bad_line.ensures at c.write_line.ensures.written)

pub returns-clause-answered : goal.returns-clause-answered
returns-clause-answered g c = λ bytes kept.
    let same : c.in-Some.bytes.now ≡ bytes = kept_some bytes c.in-Some.bytes.now (rw c.in-Some.is at kept) in
    rw (← same) c.end_whole.ensures.answered
