use Rattle.std.proofs.Common.{refl, sym, ◌∙◌, inl}
use Rattle.std.proofs.lemmas.Result.{err_from_is_err_and}
use Rattle.kf_plain.proofs.Making.{moved_at, moved_nowhere, not_moved_at}
use Rattle.kf_plain.proofs.nodes.Nodes.move_at.Goals as goal

pub returns-clause-moved : goal.returns-clause-moved
returns-clause-moved c =
    moved_at c.args.self.now c.rename.new.self c.state.result.now c.state-2.result.now c.args.path.now c.args.dir.now c.args.name.now c.in_ok-key.key c.in_ok-into.into c.rename.result c.state.ensures.log c.state-2.ensures.log
    (sym c.walk.ensures.walked ∙ c.in_ok-key.was) (sym c.walk-2.ensures.walked ∙ c.in_ok-into.was) c.rename.ensures.no_cause c.rename.ensures.moved

pub returns-in_err-into-clause-refused : goal.returns-in_err-into-clause-refused
returns-in_err-into-clause-refused c = let p = err_from_is_err_and c.from_residual-in_err-into.result c.from_residual-in_err-into.ensures.1 in rw (p.1, p.2) (inl (moved_nowhere c.args.self.now.log c.state.result.now c.state-2.result.now c.args.path.now c.args.dir.now c.args.name.now c.in_ok-key.key _ c.state.ensures.log c.state-2.ensures.log (sym c.walk.ensures.walked ∙ c.in_ok-key.was) (sym c.walk-2.ensures.walked ∙ c.in_err-into.was)), refl)

pub returns-clause-refused : goal.returns-clause-refused
returns-clause-refused c =
    not_moved_at c.args.self.now c.rename.new.self c.state.result.now c.state-2.result.now c.args.path.now c.args.dir.now c.args.name.now c.in_ok-key.key c.in_ok-into.into c.rename.result c.state.ensures.log c.state-2.ensures.log
    (sym c.walk.ensures.walked ∙ c.in_ok-key.was) (sym c.walk-2.ensures.walked ∙ c.in_ok-into.was) c.rename.ensures.refused
