use Rattle.std.proofs.Common.{◌≤◌, ◌*◌, length}
use Rattle.kf_table.proofs.hints.double.Given as goal

abbrev pub invariant-loop-at : goal.invariant-loop-at
invariant-loop-at l = (l.at ≤ l.before) × (l.before * 2 ≤ length l.slots.items)

abbrev pub decreases-loop-at : goal.decreases-loop-at
decreases-loop-at l = l.at
