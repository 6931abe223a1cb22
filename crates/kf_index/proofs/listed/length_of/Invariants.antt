use Rattle.std.proofs.Common.{◌≡◌, length, take}
use Rattle.kf_index.specs.Chunks.{joined}
use Rattle.kf_index.proofs.listed.length_of.Given as goal

-- the length so far is the number of entries in the chunks so far
abbrev pub invariant-loop-chunk : goal.invariant-loop-chunk
invariant-loop-chunk l = l.len ≡ length (joined (take l.chunk-index l.chunks))
