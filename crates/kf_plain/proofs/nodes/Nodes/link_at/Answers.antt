use Rattle.std.proofs.Common.{sym, ◌∙◌}
use Rattle.kf_plain.proofs.Making.{linked_at, not_linked_at}
use Rattle.kf_plain.proofs.nodes.Nodes.link_at.Goals as goal

pub returns-clause-made : goal.returns-clause-made
returns-clause-made c =
    linked_at c.args.self.now c.create.new.self c.state.result.now c.state-2.result.now c.args.path.now c.args.target.now c.in_ok-dir.name.now c.args.next c.in_ok-dir.dir c.in_ok-target.target c.create.result c.state.ensures.log c.state-2.ensures.log c.in_ok-dir.ensures.walked (sym c.walk.ensures.walked ∙ c.in_ok-target.was) c.create.ensures.no_cause c.create.ensures.made

pub returns-clause-refused : goal.returns-clause-refused
returns-clause-refused c =
    not_linked_at c.args.self.now c.create.new.self c.state.result.now c.state-2.result.now c.args.path.now c.args.target.now c.in_ok-dir.name.now c.args.next c.in_ok-dir.dir c.in_ok-target.target c.create.result c.state.ensures.log c.state-2.ensures.log c.in_ok-dir.ensures.walked (sym c.walk.ensures.walked ∙ c.in_ok-target.was) c.create.ensures.refused
