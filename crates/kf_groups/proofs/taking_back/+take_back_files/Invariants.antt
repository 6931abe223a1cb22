use Rattle.std.proofs.Common.{length}
use Rattle.kf_groups.proofs.taking_back.+take_back_files.Given as goal

abbrev pub decreases-take_back_files : goal.decreases-take_back_files
decreases-take_back_files g l = length l.attributes.now
