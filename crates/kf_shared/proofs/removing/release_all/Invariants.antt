use Rattle.std.specs.Vec.{vec_len}
use Rattle.kf_shared.proofs.removing.release_all.Given as goal

abbrev pub decreases-loop-receipt : goal.decreases-loop-receipt
decreases-loop-receipt l = vec_len l.receipts
