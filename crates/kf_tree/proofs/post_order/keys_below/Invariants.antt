use Rattle.std.specs.Prelude.{◌≢◌, count_by}
use Rattle.kf_tree.specs.Orders.{AreLater}
use Rattle.kf_tree.specs.Tours.{IsUpTo}
use Rattle.kf_tree.proofs.Tours.{is_left}
use Rattle.kf_tree.proofs.post_order.keys_below.Given as goal

abbrev pub invariant-visit : goal.invariant-visit
invariant-visit l = IsUpTo l.table l.top l.current l.keys.items × (l.current ≢ l.top → AreLater l.table l.current l.later)

abbrev pub decreases-visit : goal.decreases-visit
decreases-visit l = count_by (is_left l.keys.items) l.table
