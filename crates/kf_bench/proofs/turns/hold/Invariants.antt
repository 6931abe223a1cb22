use Rattle.std.specs.Prelude.{◌≡◌}
use Rattle.kf_bench.proofs.turns.hold.Given as goal

abbrev pub invariant-loop : goal.invariant-loop
invariant-loop g l = l.holds.by.table ≡ g.N.Naming.table
