use Rattle.std.proofs.Common.{◌∙◌, ap, sym}
use Rattle.std.specs.Prelude.{Some}
use Rattle.std.proofs.lemmas.Result.{err_from_is_err_and}
use Rattle.kf_tree.proofs.Starved.{never_starved}
use Rattle.kf_tree.proofs.state.State.rename.Goals as goal

pub returns-in_err-moves-clause-same_place : goal.returns-in_err-moves-clause-same_place
returns-in_err-moves-clause-same_place c =
    (let p = err_from_is_err_and c.from_residual.result c.from_residual.ensures.1 in
    rw p.1 (λ memory. absurd (never_starved c.self.inside.table c.self.inside.root c.args.key c.args.dir c.args.name.now (c.in_err-moves.ensures.checked ∙ ap Some (sym p.2 ∙ memory)))))
