use Rattle.std.proofs.Common.{ℕ, List, ◌+◌, ◌-◌, ◌/◌, get_or, ap, sym, ◌∙◌, arith}
use Rattle.std.specs.Ordering.{nat_cmp}
use Rattle.std.specs.Cmp.Lexicographic.{slice_cmp}
use Rattle.kf_core.specs.declared.key.Key.{Key}
use Rattle.kf_index.specs.Places.{no_entry}
use Rattle.kf_index.proofs.Searched.{turned, lower_to, higher_from, place_here}
use Rattle.kf_index.proofs.search.search.Goals as goal

pub loop-low-preserved-in-Less : goal.loop-low-preserved-in-Less
loop-low-preserved-in-Less c =
    let (low, high, lower, higher) = c.loop-low.invariant in
    let read = sym (ap (λ (pair : List ℕ × Key). pair.0) (c.at.ensures.read no_entry)) ∙ sym c.bytes.ensures.same in
    let told = ap (λ n. slice_cmp nat_cmp n c.args.name.now) read ∙ sym c.in_byte_order.ensures.known in (
      omega (arith, c.loop-low-test.true),
      high,
      lower_to _ c.requires.rising _ _ no_entry (omega (arith, high, c.loop-low-test.true)) (told ∙ c.in-Less.is),
      higher,
    )

pub returns-in-Equal-clause-found : goal.returns-in-Equal-clause-found
returns-in-Equal-clause-found c =
    let (low, high, lower, higher) = c.loop-low.invariant in
    let read = sym (ap (λ (pair : List ℕ × Key). pair.0) (c.at.ensures.read no_entry)) ∙ sym c.bytes.ensures.same in
    let told = ap (λ n. slice_cmp nat_cmp n c.args.name.now) read ∙ sym c.in_byte_order.ensures.known in
    place_here _ c.requires.rising _ _ no_entry (omega (arith, high, c.loop-low-test.true)) (told ∙ c.in-Equal.is)

pub loop-low-preserved : goal.loop-low-preserved
loop-low-preserved c =
    let (low, high, lower, higher) = c.loop-low.invariant in
    let read = sym (ap (λ (pair : List ℕ × Key). pair.0) (c.at.ensures.read no_entry)) ∙ sym c.bytes.ensures.same in
    let told = ap (λ n. slice_cmp nat_cmp n c.args.name.now) read ∙ sym c.in_byte_order.ensures.known in (
      omega (arith, c.loop-low-test.true),
      omega (arith, high, c.loop-low-test.true),
      lower,
      higher_from _ c.requires.rising _ _ no_entry (omega (arith, high, c.loop-low-test.true)) (turned (get_or c.args.entries (c.loop-low.low + (c.loop-low.high - c.loop-low.low) / 2) no_entry).0 c.args.name.now (told ∙ c.in-Greater.is)),
    )
