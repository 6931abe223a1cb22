use Rattle.std.proofs.Common.{sym, ◌∙◌}
use Rattle.kf_plain.proofs.Making.{not_activated_at}
use Rattle.kf_plain.proofs.nodes.Nodes.activate_at.Goals as goal

pub returns-clause-refused : goal.returns-clause-refused
returns-clause-refused c =
    not_activated_at c.args.self.now c.activate.new.self c.state.result.now c.args.path.now c.in_ok-key.key c.activate.result c.state.ensures.log (sym c.walk.ensures.walked ∙ c.in_ok-key.was) c.activate.ensures.refused
