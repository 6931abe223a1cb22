use Rattle.std.proofs.Common.{◌-◌, ◌<◌, ◌≤◌, ℕ, List, length, get_or}
use Rattle.kf_core.specs.declared.key.Key.{Key}
use Rattle.kf_core.specs.Names.{IsBefore}
use Rattle.kf_index.proofs.search.search.Given as goal

-- the names before `low` are lower, and those from `high` on are higher
abbrev pub invariant-loop-low : goal.invariant-loop-low
invariant-loop-low l = (l.low ≤ l.high) × (l.high ≤ length l.entries)
    × ((i : ℕ) (d : List ℕ × Key) → i < l.low → IsBefore (get_or l.entries i d).0 l.name)
    × ((i : ℕ) (d : List ℕ × Key) → l.high ≤ i → i < length l.entries → IsBefore l.name (get_or l.entries i d).0)

abbrev pub decreases-loop-low : goal.decreases-loop-low
decreases-loop-low l = l.high - l.low
