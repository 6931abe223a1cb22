use Rattle.std.proofs.Common.{◌≡◌, ◌+◌, length, take, ap, arith}
use Rattle.kf_index.specs.Pairs.{Pairs}
use Rattle.kf_index.specs.Chunks.{joined}
use Rattle.kf_index.proofs.Joined.{length_more, length_few}
use Rattle.kf_index.proofs.listed.length_of.Goals as goal

pub overflow_add-len : goal.overflow_add-len
overflow_add-len c =
    let at = c.loop-chunk.chunk-index in
    let more = length_more c.args.chunks.now at c.chunk-item.result c.loop-chunk-test.true c.chunk-item.is in
    let few = length_few c.args.chunks.now (at + 1) in
    let is = ap (λ (l : Pairs). length l) c.all.ensures.listed in
    omega (arith, more, few, is, c.loop-chunk.invariant, c.len-len.ensures.known, c.requires.few)

pub loop-chunk-preserved : goal.loop-chunk-preserved
loop-chunk-preserved c =
    let at = c.loop-chunk.chunk-index in
    let more = length_more c.args.chunks.now at c.chunk-item.result c.loop-chunk-test.true c.chunk-item.is in
    let is = ap (λ (l : Pairs). length l) c.all.ensures.listed in
    let known : c.loop-chunk.len + c.len-len.result ≡ length (joined (take (at + 1) c.args.chunks.now)) =
    omega (arith, more, is, c.loop-chunk.invariant, c.len-len.ensures.known) in
    known
