use Rattle.std.proofs.Common.{◌≢◌, ◌-◌, length}
use Rattle.std.specs.Prelude.{count_by}
use Rattle.kf_tree.specs.Subtrees.{is_over_key}
use Rattle.kf_tree.specs.Orders.{AreLater}
use Rattle.kf_tree.proofs.Tours.{IsOnWayDown}
use Rattle.kf_tree.proofs.orders.first_below.Given as goal

abbrev pub invariant-down : goal.invariant-down
invariant-down l = IsOnWayDown l.table l.fn.top l.current × (l.current ≢ l.fn.top → AreLater l.table l.current l.beside)
    × (AreLater l.table l.fn.top l.fn.later → AreLater l.table l.current l.beside)

abbrev pub decreases-down : goal.decreases-down
decreases-down l = length l.table - count_by (is_over_key l.table l.current) l.table
