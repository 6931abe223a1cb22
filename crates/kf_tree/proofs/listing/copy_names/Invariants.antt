use Rattle.std.proofs.Common.{◌≡◌, ◌++◌, length}
use Rattle.kf_tree.proofs.listing.copy_names.Given as goal

-- the copies so far, followed by the names that are left to copy, are all the names
abbrev pub invariant-names : goal.invariant-names
invariant-names l = l.copies.items ++ l.later ≡ l.fn.names

abbrev pub decreases-names : goal.decreases-names
decreases-names l = length l.later
