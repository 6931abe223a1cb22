use Rattle.std.proofs.Common.{length}
use Rattle.kf_shared_tests.proofs.tests.all_good.Given as goal

abbrev pub decreases-loop-place : goal.decreases-loop-place
decreases-loop-place g l = length l.roles.items
