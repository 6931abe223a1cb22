use Rattle.std.proofs.Common.{◌≡◌, ◌+◌, ◌≤◌, take, length, All}
use Rattle.std.specs.Vec.{vec_capacity, vec_len}
use Rattle.kf_words.specs.Nodes.{KeepsNodes}
use Rattle.kf_shared.specs.Removal.{keys_of, IsNew}
use Rattle.kf_shared.proofs.pinning.pin_each.Given as goal

-- the first nodes have new holds, and there is room for the others and one more
abbrev pub invariant-loop-key : goal.invariant-loop-key
invariant-loop-key l = KeepsNodes l.fn.master l.master × (keys_of l.holds.items ≡ take l.key-index l.keys) × All (IsNew l.fn.master) l.holds.items × (vec_len l.holds ≡ l.key-index) × (length l.keys + 1 ≤ vec_capacity l.holds)
