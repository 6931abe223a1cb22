use Rattle.kf_plain.proofs.BoardVisits.{pinned_stays}
use Rattle.kf_plain.proofs.nodes.Nodes.pin.Goals as goal

pub invariant_of-self : goal.invariant_of-self
invariant_of-self c = pinned_stays c.self.inside.state c.self.inside.world c.pin.new.self c.args.key c.pin.result c.self.invariant.0 c.self.invariant.1 c.pin.ensures.step c.pin.ensures.err
