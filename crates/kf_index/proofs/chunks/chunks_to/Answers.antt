use Rattle.std.proofs.Common.{ℕ, List, ◌+◌, ◌-◌, ◌/◌, ◌<◌, [], length, get_or, ap, sym, ◌∙◌, subst, arith}
use Rattle.std.specs.Ordering.{nat_cmp}
use Rattle.std.specs.Cmp.Lexicographic.{slice_cmp}
use Rattle.kf_core.specs.declared.key.Key.{Key}
use Rattle.kf_core.specs.Names.{IsBefore}
use Rattle.kf_index.specs.Chunks.{first_name}
use Rattle.kf_index.specs.Places.{no_entry}
use Rattle.kf_index.proofs.Searched.{turned, not_turned}
use Rattle.kf_index.proofs.Belongs.{named}
use Rattle.kf_index.proofs.chunks.chunks_to.Goals as goal

pub loop-low-preserved-in-Greater : goal.loop-low-preserved-in-Greater
loop-low-preserved-in-Greater c =
    let (low, high, last, next) = c.loop-low.invariant in
    let middle = c.loop-low.low + (c.loop-low.high - c.loop-low.low) / 2 in
    let within : middle < length c.args.chunks.now = omega (arith, high, c.loop-low-test.true) in
    let read = sym (ap (λ (pair : List ℕ × Key). pair.0) (c.at.ensures.read no_entry)) ∙ sym c.bytes.ensures.same in
    let first = named c.args.chunks.now middle c.index-chunks-middle.result c.all.result c.bytes.result.now within c.index-chunks-middle.is c.all.ensures.listed read in
    let told = ap (λ n. slice_cmp nat_cmp n c.args.name.now) first ∙ sym c.in_byte_order.ensures.known ∙ c.in-Greater.is in (
      omega (arith, low),
      omega (arith, within),
      last,
      λ _. turned (first_name (get_or c.args.chunks.now middle [])) c.args.name.now told,
    )

pub loop-low-preserved : goal.loop-low-preserved
loop-low-preserved c =
    let (low, high, last, next) = c.loop-low.invariant in
    let middle = c.loop-low.low + (c.loop-low.high - c.loop-low.low) / 2 in
    let within : middle < length c.args.chunks.now = omega (arith, high, c.loop-low-test.true) in
    let read = sym (ap (λ (pair : List ℕ × Key). pair.0) (c.at.ensures.read no_entry)) ∙ sym c.bytes.ensures.same in
    let first = named c.args.chunks.now middle c.index-chunks-middle.result c.all.result c.bytes.result.now within c.index-chunks-middle.is c.all.ensures.listed read in
    let told = ap (λ n. slice_cmp nat_cmp n c.args.name.now) first ∙ sym c.in_byte_order.ensures.known in (
      omega (arith, c.loop-low-test.true),
      high,
      λ _. subst (λ at. ¬ IsBefore c.args.name.now (first_name (get_or c.args.chunks.now at []))) {x = middle} {y = middle + 1 - 1} (omega arith)
          (not_turned (first_name (get_or c.args.chunks.now middle [])) c.args.name.now (λ above. c.in_default.not-Greater (sym told ∙ above))),
      next,
    )
