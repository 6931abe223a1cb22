use Rattle.std.proofs.Common.{length}
use Rattle.kf_groups.proofs.checks.+groups_cause.Given as goal

abbrev pub decreases-groups_cause : goal.decreases-groups_cause
decreases-groups_cause l = length l.groups.now
