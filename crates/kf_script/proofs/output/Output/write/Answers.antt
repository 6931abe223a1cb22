use Rattle.std.proofs.Common.{[], refl, rules}
use Rattle.std.proofs.lemmas.Result.{err_from_is_err_and}
use Rattle.kf_script.proofs.Kept.{grown-given, grows-trans, keeps-none, same-given, writes-grow}
use Rattle.kf_script.proofs.output.Output.write.Goals as goal

-- The searches here are short: if a goal does not hold, its search ends at once.
pub returns-clause-unwritten : goal.returns-clause-unwritten
returns-clause-unwritten g c = search rules

pub returns-clause-whole : goal.returns-clause-whole
returns-clause-whole g c = search rules

pub returns-in_err-flush-clause-written : goal.returns-in_err-flush-clause-written
returns-in_err-flush-clause-written g c =
    let p = err_from_is_err_and c.from_residual.result c.from_residual.ensures.1 in
    rw p.1 ([], (c.args.bytes.now, refl), keeps-none _ _ (same-given _ _ _ _ c.flush.ensures.given))

pub returns-then-bytes-gt-KEPT_LIMIT-clause-grew : goal.returns-then-bytes-gt-KEPT_LIMIT-clause-grew
returns-then-bytes-gt-KEPT_LIMIT-clause-grew g c =
    grows-trans _ _ _ (grown-given _ _ _ _ c.flush.ensures.given) (writes-grow _ _ c.write_whole-result.result _ c.write_whole-result.ensures.written)
