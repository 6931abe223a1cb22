use Rattle.std.proofs.Common.{subst}
use Rattle.kf_world.specs.Bounded.{hold_count}
use Rattle.kf_plain.specs.Nodes.{Nodes, IsFreeKeyOf}
use Rattle.kf_plain.proofs.Ties.{next_found}
use Rattle.kf_plain.proofs.nodes.Nodes.next_key.Goals as goal

pub returns : goal.returns
returns c = record { next = subst (λ (n : Nodes). IsFreeKeyOf n.log.tree n.last (hold_count n.callers) c.free_key.result) c.self.view_is (next_found _ c.self.inside.world.world c.free_key.result c.self.invariant.0 c.free_key.ensures.next c.free_key.ensures.none) }
