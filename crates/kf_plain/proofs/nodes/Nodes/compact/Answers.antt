use Rattle.kf_plain.proofs.Compacting.{compacted_stays_tied, seen_compacted}
use Rattle.kf_plain.proofs.nodes.Nodes.compact.Goals as goal

pub invariant_of-self : goal.invariant_of-self
invariant_of-self c = compacted_stays_tied c.args.self.now c.self.inside.state c.compact.new.self c.self.inside.world c.self.view_is c.compact.result c.self.invariant.0 c.self.invariant.1 c.compact.ensures.compacted c.compact.ensures.refused

pub returns-clause-compacted : goal.returns-clause-compacted
returns-clause-compacted c = seen_compacted c.args.self.now c.self.inside.state c.compact.new.self c.self.inside.world c.self.view_is c.compact.result c.compact.ensures.compacted
