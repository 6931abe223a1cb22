use Rattle.std.proofs.Common.{length}
use Rattle.kf_workers.proofs.board.ending.close_all.Given as goal

abbrev pub decreases-loop-place : goal.decreases-loop-place
decreases-loop-place g l = length l.files.items
