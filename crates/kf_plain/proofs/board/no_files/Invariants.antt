use Rattle.std.proofs.Common.{◌≡◌, replicate, None}
use Rattle.kf_plain.proofs.board.no_files.Given as goal

abbrev pub invariant-loop-made : goal.invariant-loop-made
invariant-loop-made l = l.files.items ≡ replicate l.made None
