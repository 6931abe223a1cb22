use Rattle.std.proofs.Common.{length}
use Rattle.kf_table.proofs.hints.hash_of.Given as goal

abbrev pub decreases-loop-word : goal.decreases-loop-word
decreases-loop-word l = length l.rest
