use Rattle.std.specs.Vec.Iter.{into_iter_items}
use Rattle.kf_hot.proofs.Gating.{others_kept}
use Rattle.kf_hot.proofs.removal.close_gates.Goals as goal

pub loop-open-preserved : goal.loop-open-preserved
loop-open-preserved g c = others_kept (into_iter_items c.loop-open.rest) (into_iter_items c.next.new.self) c.in-Some.open c.in-Some.ensures.items c.loop-open.invariant
