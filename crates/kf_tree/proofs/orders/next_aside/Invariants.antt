use Rattle.std.specs.Prelude.{count_by}
use Rattle.kf_tree.specs.Subtrees.{is_over_key}
use Rattle.kf_tree.proofs.PreOrder.{IsOnWayUp}
use Rattle.kf_tree.proofs.orders.next_aside.Given as goal

abbrev pub invariant-up : goal.invariant-up
invariant-up l = IsOnWayUp l.table l.fn.key l.current

abbrev pub decreases-up : goal.decreases-up
decreases-up l = count_by (is_over_key l.table l.current) l.table
