-- From slot 1 on, no slot of the block is free if its bit is clear in `left`.
use Rattle.std.proofs.Common.{◌≡◌, ℕ, ◌+◌, ◌*◌, ◌<◌, ◌≤◌}
use Rattle.std.specs.Int.{bit_at}
use Rattle.kf_world.specs.Bounded.{IsFree}
use Rattle.kf_world.proofs.world.World.free_in_block.Given as goal

abbrev pub invariant-loop-left : goal.invariant-loop-left
invariant-loop-left l = (bit : ℕ) → bit < 64 → bit_at l.left bit ≡ 0 → 1 ≤ 64 * l.block + bit → ¬ IsFree l.self.world (64 * l.block + bit)

abbrev pub decreases-loop-left : goal.decreases-loop-left
decreases-loop-left l = l.left
