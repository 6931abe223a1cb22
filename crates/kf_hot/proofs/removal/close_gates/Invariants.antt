use Rattle.std.specs.Vec.Iter.{into_iter_items, into_iter_len}
use Rattle.kf_hot.specs.Gated.{HaveReference, kept_by}
use Rattle.kf_hot.proofs.removal.close_gates.Given as goal

abbrev pub invariant-loop-open : goal.invariant-loop-open
invariant-loop-open g l = HaveReference (kept_by (into_iter_items l.rest))

abbrev pub decreases-loop-open : goal.decreases-loop-open
decreases-loop-open g l = into_iter_len l.rest
