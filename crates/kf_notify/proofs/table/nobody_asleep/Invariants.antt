use Rattle.std.proofs.Common.{◌≡◌, vec_len}
use Rattle.kf_notify.proofs.table.nobody_asleep.Given as goal

abbrev pub invariant-loop-slot : goal.invariant-loop-slot
invariant-loop-slot l = vec_len l.sleepers ≡ l._slot
