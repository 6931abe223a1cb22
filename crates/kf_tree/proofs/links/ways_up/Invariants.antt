use Rattle.std.proofs.Common.{◌+◌}
use Rattle.kf_tree.proofs.OneClimb.{IsWayBefore, still_up}
use Rattle.kf_tree.proofs.links.ways_up.Given as goal

abbrev pub invariant-up : goal.invariant-up
invariant-up l = record {
  from : IsWayBefore l.table l.fn.root l.fn.left l.from.items l.base;
  to : IsWayBefore l.table l.fn.root l.fn.right l.to.items l.other;
}

abbrev pub decreases-up : goal.decreases-up
decreases-up l = still_up l.table l.from.items l.base + still_up l.table l.to.items l.other
