use Rattle.std.proofs.lemmas.Result.{err_from_is_err_and}
use Rattle.kf_groups.proofs.Leavings.{ended_refused, stopped_refusal}
use Rattle.kf_groups.proofs.removal.remove_group.Goals as goal

pub returns-in_err-begun : goal.returns-in_err-begun
returns-in_err-begun g c =
    let p = err_from_is_err_and c.from_residual.result c.from_residual.ensures.1 in record {
      refused = rw (p.1, p.2) (stopped_refusal _ c.edit.result c.args.dir c.args.group.now.name c.in_err-begun.field-0.0
          c.edit.ensures.whole c.in_err-begun.ensures.refused);
    }

pub returns : goal.returns
returns g c = record {
  refused = ended_refused c.in_ok-begun.field-0.refused c.finish.result _ c.finish.ensures.told c.in_ok-begun.ensures.why;
}
