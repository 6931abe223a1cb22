use Rattle.std.specs.Prelude.{◌≡◌}
use Rattle.kf_bench.proofs.tasks.open_by.Given as goal

abbrev pub invariant-loop : goal.invariant-loop
invariant-loop g l = l.kept.post.slot ≡ 65
