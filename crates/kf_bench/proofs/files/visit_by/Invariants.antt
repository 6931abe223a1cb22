use Rattle.std.specs.Prelude.{◌≡◌}
use Rattle.kf_bench.proofs.files.visit_by.Given as goal

abbrev pub invariant-loop : goal.invariant-loop
invariant-loop g l = l.kept.post.slot ≡ l.slot
