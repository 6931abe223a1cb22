use Rattle.kf_plain.proofs.Ties.{renamed_stays_tied}
use Rattle.kf_plain.proofs.HiddenMarks.{renamed_stays_told}
use Rattle.kf_plain.proofs.nodes.Nodes.rename.Goals as goal

pub invariant_of-self : goal.invariant_of-self
invariant_of-self c = (
  renamed_stays_tied c.self.inside.state c.rename.new.self c.self.inside.world.world c.args.key c.args.dir c.args.name.now _ c.rename.result c.self.invariant.0 c.rename.ensures.stays c.rename.ensures.accepted c.rename.ensures.refused,
  renamed_stays_told c.self.inside.state c.rename.new.self c.self.inside.world.world c.args.key c.args.dir c.args.name.now _ c.rename.result c.self.invariant.1 c.rename.ensures.stays c.rename.ensures.accepted c.rename.ensures.refused,
)
