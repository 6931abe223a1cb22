use Rattle.std.proofs.Common.{◌≡◌, ◌≢◌, [], ◌++◌, List, length, ap, arith}
use Rattle.std.proofs.lemmas.List.{length-append}
use Rattle.std.proofs.lemmas.List.Elements.{All-rest}
use Rattle.kf_index.specs.Pairs.{Pairs}
use Rattle.kf_index.specs.Chunks.{joined}
use Rattle.kf_index.proofs.listed.Listed.of_chunks.Goals as goal

pub invariant_of-result : goal.invariant_of-result
invariant_of-result c =
    let chunk = c.in_ok-chunk.chunk.now in
    let rest = c.in_ok-chunk.later.now in
    let whole : length (joined c.args.later.now) ≡ length (chunk ++ joined rest) = ap (λ (l : List Pairs). length (joined l)) c.in_ok-chunk.ensures.cases.0 in
    let first = ap (λ (l : Pairs). length l) c.in_ok-first.ensures.split in
    let is = ap (λ (l : Pairs). length l) c.all.ensures.listed in (
      All-rest (λ (l : Pairs). l ≢ []) chunk rest c.args.later.now c.in_ok-chunk.ensures.cases.0 c.requires.some,
      omega (arith, whole, first, is, length-append chunk (joined rest), length-append c.in_ok-first.part (joined rest), c.requires.few),
    )
