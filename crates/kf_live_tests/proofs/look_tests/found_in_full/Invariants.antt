use Rattle.std.proofs.Common.{◌≡◌}
use Rattle.kf_live_tests.proofs.look_tests.found_in_full.Given as goal

abbrev pub invariant-loop-slot : goal.invariant-loop-slot
invariant-loop-slot g l = l.looker.seat.table_id ≡ l.looks.table.shared.table_id
