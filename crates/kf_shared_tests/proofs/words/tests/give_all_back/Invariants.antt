use Rattle.std.proofs.Common.{length}
use Rattle.kf_shared_tests.proofs.words.tests.give_all_back.Given as goal

abbrev pub decreases-loop-place : goal.decreases-loop-place
decreases-loop-place g l = length l.roles.items
