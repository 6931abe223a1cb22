use Rattle.std.proofs.Common.{◌≡◌, ◌+◌, ◌≤◌, ◌∷◌}
use Rattle.std.specs.Vec.{vec_capacity, vec_len}
use Rattle.std.specs.VecDeque.{deque_len}
use Rattle.kf_shared.specs.Locked.{history}
use Rattle.kf_shared.specs.Receipts.{AreOf}
use Rattle.kf_shared.proofs.NextTurns.{IsTurning}
use Rattle.kf_shared.proofs.locked.Locked.unlink_next.Given as goal

abbrev pub invariant-loop : goal.invariant-loop
invariant-loop g l =
    IsTurning (history l.initial.self) (history l.self) (l.fn.first ∷ l.initial.holds.items) l.initial.receipts.items l.receipts.items l.next l.holds.items l.counter
    × (l.next.table ≡ g.N.Naming.table) × AreOf g.N.Naming.table l.holds.items
    × (vec_len l.receipts + (1 + deque_len l.holds) ≤ vec_capacity l.receipts)
