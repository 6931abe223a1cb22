use Rattle.std.proofs.Common.{◌≡◌, ◌≤◌, ◌-◌, ◌++◌, length, replicate}
use Rattle.std.specs.Prelude.{None, vec_capacity}
use Rattle.kf_core.proofs.slot_map.reach.Given as goal

abbrev pub invariant-loop : goal.invariant-loop
invariant-loop g l =
    (length l.items.items ≡ l.counter) × (length l.items.items ≤ l.slots) × (l.slots ≤ vec_capacity l.items)
    × (l.items.items ++ replicate (l.slots - length l.items.items) None ≡ l.fn.items.items ++ replicate (l.slots - length l.fn.items.items) None)
