use Rattle.std.proofs.Common.{◌≡◌, take}
use Rattle.kf_tree.specs.Subtrees.{with_changed_slots}
use Rattle.kf_table.specs.Changes.{activated_unless_doomed}
use Rattle.kf_tree.proofs.marks.activate_each.Given as goal

abbrev pub invariant-loop-key : goal.invariant-loop-key
invariant-loop-key l = l.table ≡ with_changed_slots activated_unless_doomed l.initial.table (take l.key-index l.keys)
