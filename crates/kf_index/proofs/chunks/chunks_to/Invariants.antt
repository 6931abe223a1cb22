use Rattle.std.proofs.Common.{◌-◌, ◌<◌, ◌≤◌, [], length, get_or}
use Rattle.kf_core.specs.Names.{IsBefore}
use Rattle.kf_index.specs.Chunks.{first_name}
use Rattle.kf_index.proofs.chunks.chunks_to.Given as goal

-- the last chunk before `low` begins at or below the name, and the one at `high` begins above it
abbrev pub invariant-loop-low : goal.invariant-loop-low
invariant-loop-low l = (l.low ≤ l.high) × (l.high ≤ length l.chunks)
    × (0 < l.low → ¬ IsBefore l.name (first_name (get_or l.chunks (l.low - 1) [])))
    × (l.high < length l.chunks → IsBefore l.name (first_name (get_or l.chunks l.high [])))

abbrev pub decreases-loop-low : goal.decreases-loop-low
decreases-loop-low l = l.high - l.low
