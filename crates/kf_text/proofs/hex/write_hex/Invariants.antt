use Rattle.std.proofs.Common.{◌≡◌, ◌≤◌, length}
use Rattle.kf_text.proofs.Hexes.{Writes}
use Rattle.kf_text.proofs.hex.write_hex.Given as goal

abbrev pub invariant-loop-at : goal.invariant-loop-at
invariant-loop-at l = (l.at ≤ 64) × (length l.bytes ≡ 64) × Writes l.at l.rest l.bytes l.number

abbrev pub decreases-loop-at : goal.decreases-loop-at
decreases-loop-at l = l.at
