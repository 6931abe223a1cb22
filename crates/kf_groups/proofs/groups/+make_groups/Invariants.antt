use Rattle.std.proofs.Common.{length}
use Rattle.kf_groups.proofs.groups.+make_groups.Given as goal

abbrev pub decreases-make_groups : goal.decreases-make_groups
decreases-make_groups g l = length l.groups.now
