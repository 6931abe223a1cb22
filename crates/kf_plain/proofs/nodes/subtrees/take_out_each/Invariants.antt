use Rattle.std.proofs.Common.{◌≡◌, take, drop}
use Rattle.kf_plain.specs.Removals.{released}
use Rattle.kf_plain.proofs.Rows.{partly}
use Rattle.kf_plain.proofs.TakenOut.{HasTaken}
use Rattle.kf_plain.proofs.nodes.subtrees.take_out_each.Given as goal

-- the first nodes are taken out, and their callers have released them
abbrev pub invariant-loop-done : goal.invariant-loop-done
invariant-loop-done l = HasTaken l.fn.state l.state l.fn.world l.world (take l.done l.keys)
    × (l.world.world.callers ≡ partly released (take l.first l.fn.world.world.callers) (drop l.first l.fn.world.world.callers) l.done)
