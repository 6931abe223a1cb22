use Rattle.std.proofs.Common.{◌≡◌, ◌+◌, ◌≤◌, take}
use Rattle.kf_core.specs.Commands.{doomed_record}
use Rattle.kf_tree.specs.Subtrees.{with_changed_slots, doomed_count}
use Rattle.kf_tree.proofs.marks.doom_each.Given as goal

abbrev pub invariant-loop-key : goal.invariant-loop-key
invariant-loop-key l = (l.table ≡ with_changed_slots doomed_record l.initial.table (take l.key-index l.keys))
    × (doomed_count l.table ≡ doomed_count l.initial.table + l.newly) × (l.newly ≤ l.key-index)
