use Rattle.std.proofs.Common.{◌≤◌, ◌+◌, length, take, arith}
use Rattle.kf_index.specs.Chunks.{joined}
use Rattle.kf_index.proofs.Joined.{length_more, length_few}
use Rattle.kf_index.proofs.chunks.room_of.Goals as goal

pub loop-chunk-preserved : goal.loop-chunk-preserved
loop-chunk-preserved c =
    let at = c.loop-chunk.chunk-index in
    let more = length_more c.args.chunks.now at c.chunk-item.result c.loop-chunk-test.true c.chunk-item.is in
    let few = length_few c.args.chunks.now (at + 1) in
    let enough : length (joined (take (at + 1) c.args.chunks.now)) ≤ c.saturating_add-room.result =
    omega (arith, more, few, c.loop-chunk.invariant, c.room.ensures.enough, c.saturating_add-room.ensures, c.requires.few) in
    enough
