use Rattle.std.proofs.Common.{◌≡◌, ◌+◌, drop}
use Rattle.kf_plain.proofs.Pins.{ArePinned}
use Rattle.kf_plain.proofs.nodes.subtrees.pin_each.Given as goal

-- the head and this many of the rest are held
abbrev pub invariant-loop-done : goal.invariant-loop-done
invariant-loop-done l = ArePinned l.fn.world l.world l.keys l.first (l.done + 1) × (l.rest ≡ drop 1 l.keys)
