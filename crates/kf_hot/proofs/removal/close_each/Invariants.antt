use Rattle.std.proofs.Common.{◌≡◌, ◌+◌, ◌≤◌, ◌++◌}
use Rattle.std.specs.Vec.{vec_capacity, vec_len}
use Rattle.std.specs.Vec.Iter.{into_iter_items, into_iter_len}
use Rattle.kf_hot.specs.Gated.{AreShut, HaveReference, kept_by, last_openings, openings}
use Rattle.kf_hot.proofs.removal.close_each.Given as goal

abbrev pub invariant-loop-gate : goal.invariant-loop-gate
invariant-loop-gate g l =
    AreShut (into_iter_items l.rest) × HaveReference (kept_by (into_iter_items l.rest))
    × (last_openings l.closed.items ++ openings (into_iter_items l.rest) ≡ openings l.fn.gates.items)
    × (vec_len l.closed + into_iter_len l.rest ≤ vec_capacity l.closed)

abbrev pub decreases-loop-gate : goal.decreases-loop-gate
decreases-loop-gate g l = into_iter_len l.rest
