use Rattle.std.proofs.Common.{◌≡◌, length, take}
use Rattle.kf_tree.specs.Listing.{live_names}
use Rattle.kf_tree.proofs.listing.Names.split_first.Given as goal

-- the live names among the children that are left, up to the limit, are all the names still to come
abbrev pub invariant-children : goal.invariant-children
invariant-children l = take l.limit (live_names l.table l.later) ≡ l.fn.self

abbrev pub decreases-children : goal.decreases-children
decreases-children l = length l.later
