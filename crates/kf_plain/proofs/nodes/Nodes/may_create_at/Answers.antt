use Rattle.kf_plain.proofs.Making.{may_be_created}
use Rattle.kf_plain.proofs.nodes.Nodes.may_create_at.Goals as goal

pub returns : goal.returns
returns c = record {
  checked =
      may_be_created c.args.self.now.log c.state.result.now c.state-2.result.now c.args.path.now c.in_ok-dir.name.now c.args.node c.args.next c.in_ok-dir.dir c.may_create.result c.state.ensures.log c.state-2.ensures.log c.in_ok-dir.ensures.walked c.may_create.ensures.checked;
}
