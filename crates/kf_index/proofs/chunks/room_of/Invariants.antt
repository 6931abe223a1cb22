use Rattle.std.proofs.Common.{◌≤◌, length, take}
use Rattle.kf_index.specs.Chunks.{joined}
use Rattle.kf_index.proofs.chunks.room_of.Given as goal

-- there is room for the entries of the chunks so far
abbrev pub invariant-loop-chunk : goal.invariant-loop-chunk
invariant-loop-chunk l = length (joined (take l.chunk-index l.chunks)) ≤ l.room
