use Rattle.std.proofs.Common.{length}
use Rattle.kf_groups.proofs.leaving.+begin_files.Given as goal

abbrev pub decreases-begin_files : goal.decreases-begin_files
decreases-begin_files g l = length l.attributes.now
