-- No slot below the block is free.
use Rattle.std.proofs.Common.{◌*◌}
use Rattle.kf_world.specs.Counts.{NoneFree}
use Rattle.kf_world.proofs.world.World.free_in_group.Given as goal

abbrev pub invariant-loop-block : goal.invariant-loop-block
invariant-loop-block l = NoneFree l.self.world (64 * l.block)
