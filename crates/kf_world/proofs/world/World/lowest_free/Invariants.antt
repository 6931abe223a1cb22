-- No slot below the group is free.
use Rattle.std.proofs.Common.{◌*◌}
use Rattle.kf_world.specs.Counts.{NoneFree}
use Rattle.kf_world.proofs.world.World.lowest_free.Given as goal

abbrev pub invariant-loop-group : goal.invariant-loop-group
invariant-loop-group l = NoneFree l.self.world (4096 * l.group)
