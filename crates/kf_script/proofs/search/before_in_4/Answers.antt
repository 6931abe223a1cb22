use Rattle.std.proofs.Common.{eqb, sym, ap, ◌∙◌, arith, w8}
use lib.Count.{count_trailing_zeros}
use Rattle.std.specs.Simd.Lanes.{chunk}
use Rattle.std.proofs.lemmas.Simd.{length-chunk, bitmask_splat, leading_from_mask_l, trailing_mask_l}
use Rattle.kf_script.proofs.search.before_in_4.Goals as goal

pub returns-then-marks-eq0 : goal.returns-then-marks-eq0
returns-then-marks-eq0 c =
    let v = chunk c.args.from 4 c.args.bytes.now in
    let long = length-chunk c.args.from 4 c.args.bytes.now c.requires in
    let marks = bitmask_splat w8 eqb v 4 c.args.byte long (omega arith) in
    sym (leading_from_mask_l (λ b. eqb b c.args.byte) v (sym marks ∙ c.if-marks-eq0.true) ∙ long)

pub returns-else-marks-eq0 : goal.returns-else-marks-eq0
returns-else-marks-eq0 c =
    let v = chunk c.args.from 4 c.args.bytes.now in
    let long = length-chunk c.args.from 4 c.args.bytes.now c.requires in
    let marks = bitmask_splat w8 eqb v 4 c.args.byte long (omega arith) in
    ap (count_trailing_zeros 64) marks ∙ trailing_mask_l (λ b. eqb b c.args.byte) 64 v (omega arith) (omega arith)
