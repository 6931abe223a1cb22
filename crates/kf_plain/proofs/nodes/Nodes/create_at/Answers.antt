use Rattle.kf_plain.proofs.Making.{created_at, not_created_at}
use Rattle.kf_plain.proofs.nodes.Nodes.create_at.Goals as goal

pub returns-clause-made : goal.returns-clause-made
returns-clause-made c =
    created_at c.args.self.now c.create.new.self c.state.result.now c.args.path.now c.in_ok-dir.name.now c.in_ok-dir.name.now c.args.node c.args.is_live c.args.next c.in_ok-dir.dir c.create.result c.state.ensures.log c.in_ok-dir.ensures.walked c.create.ensures.no_cause c.create.ensures.made

pub returns-clause-refused : goal.returns-clause-refused
returns-clause-refused c =
    not_created_at c.args.self.now c.create.new.self c.state.result.now c.args.path.now c.in_ok-dir.name.now c.args.node c.args.next c.in_ok-dir.dir c.create.result c.state.ensures.log c.in_ok-dir.ensures.walked c.create.ensures.refused
