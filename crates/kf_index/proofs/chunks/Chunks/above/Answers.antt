use Rattle.std.proofs.Common.{◌++◌, drop, ap, ◌∙◌}
use Rattle.kf_index.specs.Pairs.{Pairs}
use Rattle.kf_index.specs.Chunks.{joined}
use Rattle.kf_index.proofs.Belongs.{rising_of, above_of}
use Rattle.kf_index.proofs.chunks.Chunks.above.Goals as goal

pub first_above-at-requires : goal.first_above-at-requires
first_above-at-requires c = record { rising = rw c.all-2.ensures.listed (rising_of _ _ _ _ c.chunk_for.ensures.part c.requires.rising) }

pub returns : goal.returns
returns c =
    let first = rw c.all-2.ensures.listed at c.first_above-at.ensures.first in
    let left = c.from.ensures.left ∙ ap (λ (l : Pairs). drop c.first_above-at.result l) c.all-3.ensures.listed in
    let is = c.new-2.ensures.made ∙ ap (λ (l : Pairs). l ++ joined c.chunk_for.result.1.now) left in
    rw c.in-Some.is (record { first = above_of _ _ _ _ c.chunk_for.ensures.part _ _ first is })
