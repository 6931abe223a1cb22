use Rattle.std.proofs.Common.{◌≡◌, vec_len}
use Rattle.kf_workers.proofs.run.add_seats.Given as goal

-- there is one seat for each that was made
abbrev pub invariant-loop-made : goal.invariant-loop-made
invariant-loop-made g l = vec_len l.seats ≡ l.made
