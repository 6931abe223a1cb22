use Rattle.std.proofs.Common.{arith}
use Rattle.std.specs.Vec.Iter.{into_iter_items}
use Rattle.kf_hot.proofs.Gating.{first_shut, others_shut, others_kept, next_closed, closed_opening}
use Rattle.kf_hot.proofs.removal.close_each.Goals as goal

pub wait_closed-shut-requires : goal.wait_closed-shut-requires
wait_closed-shut-requires g c = record { shut = first_shut (into_iter_items c.loop-gate.rest) (into_iter_items c.next.new.self) c.in-Some.gate c.in-Some.ensures.items c.loop-gate.invariant.0 }

pub loop-gate-preserved : goal.loop-gate-preserved
loop-gate-preserved g c =
    let i = c.loop-gate.invariant in
    let same = c.wait_closed-shut.ensures.same in (
      others_shut (into_iter_items c.loop-gate.rest) (into_iter_items c.next.new.self) c.in-Some.gate c.in-Some.ensures.items i.0,
      others_kept (into_iter_items c.loop-gate.rest) (into_iter_items c.next.new.self) c.in-Some.gate c.in-Some.ensures.items i.1,
      next_closed c.loop-gate.closed.items c.push_reserved.new.self.items c.wait_closed-shut.result.0 (into_iter_items c.loop-gate.rest) (into_iter_items c.next.new.self) c.in-Some.gate _ c.in-Some.ensures.items c.push_reserved.ensures.items
          (closed_opening c.wait_closed-shut.result.0 c.in-Some.gate same.0 same.1) i.2,
      omega (arith, i.3, c.in-Some.ensures.len, c.push_reserved.ensures.len, c.push_reserved.ensures.capacity),
    )
