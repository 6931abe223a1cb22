use Rattle.std.proofs.Common.{◌≡◌, ◌≤◌, ◌-◌, length, take, drop, reverse, vec_capacity}
use Rattle.kf_index.specs.Places.{AreInOrder, pairs_at}
use Rattle.kf_index.proofs.places.move_turned.Given as goal

-- the entries that are left are as they were, and the others were moved, in reverse order
abbrev pub invariant-loop-left : goal.invariant-loop-left
invariant-loop-left l = (l.left ≤ l.fn.len)
    × ((l.fn.stay ≤ l.left)
    × (AreInOrder l.entries l.order l.left
    × ((pairs_at l.entries (take l.left l.order) ≡ take l.left (pairs_at l.fn.entries (take l.fn.len l.fn.order)))
    × (AreInOrder l.to.items l.to_order.items (l.fn.len - l.left)
    × ((length l.to_order.items ≡ l.fn.len - l.left)
    × ((pairs_at l.to.items (take (l.fn.len - l.left) l.to_order.items) ≡ reverse (drop l.left (pairs_at l.fn.entries (take l.fn.len l.fn.order))))
    × ((vec_capacity l.to ≡ vec_capacity l.fn.to)
    × (vec_capacity l.to_order ≡ vec_capacity l.fn.to_order))))))))

abbrev pub decreases-loop-left : goal.decreases-loop-left
decreases-loop-left l = l.left
