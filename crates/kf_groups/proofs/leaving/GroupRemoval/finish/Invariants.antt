use Rattle.std.specs.Vec.Iter.{into_iter_len}
use Rattle.kf_groups.proofs.leaving.GroupRemoval.finish.Given as goal

abbrev pub decreases-loop-removing : goal.decreases-loop-removing
decreases-loop-removing g l = into_iter_len l.rest
