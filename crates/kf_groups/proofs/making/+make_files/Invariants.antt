use Rattle.std.proofs.Common.{length}
use Rattle.kf_groups.proofs.making.+make_files.Given as goal

abbrev pub decreases-make_files : goal.decreases-make_files
decreases-make_files g l = length l.attributes.now
