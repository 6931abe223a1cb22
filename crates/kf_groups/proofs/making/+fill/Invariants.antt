use Rattle.std.proofs.Common.{length}
use Rattle.kf_groups.proofs.making.+fill.Given as goal

abbrev pub decreases-fill : goal.decreases-fill
decreases-fill g l = length l.attributes.now
