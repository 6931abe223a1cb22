use Rattle.std.proofs.Common.{◌+◌, ◌≤◌, ◌++◌, length}
use Rattle.std.specs.Option.{option_to_list}
use Rattle.std.specs.Vec.{vec_capacity, vec_len}
use Rattle.std.specs.VecDeque.{deque_len}
use Rattle.kf_shared.proofs.Finished.{IsFinishing}
use Rattle.kf_shared.proofs.tree.SharedTree.finish_rest.Given as goal

abbrev pub invariant-loop : goal.invariant-loop
invariant-loop g l =
    IsFinishing (option_to_list l.initial.drained ++ l.initial.holds.items) l.initial.receipts.items l.receipts.items (option_to_list l.drained ++ l.holds.items)
    × (vec_len l.receipts + (length (option_to_list l.drained) + deque_len l.holds) ≤ vec_capacity l.receipts)
