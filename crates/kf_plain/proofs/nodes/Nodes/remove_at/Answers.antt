use Rattle.std.proofs.Common.{sym, ◌∙◌}
use Rattle.kf_plain.proofs.Removing.{removed_at, not_removed_at}
use Rattle.kf_plain.proofs.nodes.Nodes.remove_at.Goals as goal

pub returns-clause-removed : goal.returns-clause-removed
returns-clause-removed c = removed_at c.args.self.now c.remove.new.self c.state.result.now c.args.path.now c.in_ok-key.key c.remove.result c.state.ensures.log (sym c.walk.ensures.walked ∙ c.in_ok-key.was) c.remove.ensures.no_cause c.remove.ensures.room c.remove.ensures.removed

pub returns-clause-refused : goal.returns-clause-refused
returns-clause-refused c = not_removed_at c.args.self.now c.remove.new.self c.state.result.now c.args.path.now c.in_ok-key.key c.remove.result c.state.ensures.log (sym c.walk.ensures.walked ∙ c.in_ok-key.was) c.remove.ensures.refused
