use Rattle.std.proofs.Common.{◌≡◌, take, drop}
use Rattle.kf_plain.specs.Removals.{released, with_callers}
use Rattle.kf_plain.proofs.Rows.{partly}
use Rattle.kf_plain.proofs.nodes.subtrees.release_from.Given as goal

-- the first of the callers have released their keys
abbrev pub invariant-loop-done : goal.invariant-loop-done
invariant-loop-done l = l.world ≡ with_callers l.fn.world (partly released (take l.first l.fn.world.world.callers) (drop l.first l.fn.world.world.callers) l.done)
