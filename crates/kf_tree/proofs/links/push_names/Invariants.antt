use Rattle.std.proofs.Common.{◌≡◌, ◌++◌, length}
use Rattle.std.specs.Prelude.{map, reverse}
use Rattle.std.specs.List.{join_with_byte}
use Rattle.kf_tree.specs.Ways.{name_at}
use Rattle.kf_tree.proofs.links.push_names.Given as goal

-- what was pushed, followed by what is still to be pushed, is the whole text
abbrev pub invariant-down : goal.invariant-down
invariant-down l = l.text.items ++ join_with_byte 47 (reverse (map (name_at l.table) l.keys.items))
    ≡ l.initial.text.items ++ join_with_byte 47 (reverse (map (name_at l.table) l.initial.keys.items))

abbrev pub decreases-down : goal.decreases-down
decreases-down l = length l.keys.items
