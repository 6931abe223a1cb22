use Rattle.std.proofs.Common.{◌≡◌, ◌+◌, ◌≤◌, ◌++◌}
use Rattle.std.specs.Vec.{vec_capacity, vec_len}
use Rattle.std.specs.VecDeque.{deque_len}
use Rattle.kf_shared.specs.Locked.{history}
use Rattle.kf_shared.specs.Receipts.{AreOf, owners_of}
use Rattle.kf_shared.specs.Removal.{keys_of}
use Rattle.kf_shared.specs.Sections.{unlinks_of}
use Rattle.kf_shared.proofs.locked.Locked.unlink_unused.Given as goal

abbrev pub invariant-loop : goal.invariant-loop
invariant-loop g l =
    AreOf g.N.Naming.table l.holds.items × AreOf g.N.Naming.table l.receipts.items
    × (owners_of l.receipts.items ++ owners_of l.holds.items ≡ owners_of l.fn.holds.items)
    × (vec_len l.receipts + deque_len l.holds ≤ vec_capacity l.receipts)
    × (history l.self ≡ history l.initial.self ++ unlinks_of (keys_of l.receipts.items))
