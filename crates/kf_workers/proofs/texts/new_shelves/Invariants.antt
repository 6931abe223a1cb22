use Rattle.std.proofs.Common.{◌≡◌, ◌≤◌, vec_len, vec_capacity}
use Rattle.kf_workers.proofs.texts.new_shelves.Given as goal

abbrev pub invariant-loop-made : goal.invariant-loop-made
invariant-loop-made l = (vec_len l.shelves ≡ l.made) × (256 ≤ vec_capacity l.shelves)
