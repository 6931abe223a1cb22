use Rattle.kf_shared_tests.proofs.Life.{tree_lives}
use Rattle.kf_shared_tests.proofs.laws.tree_life.Goals as goal

pub returns : goal.returns
returns c = record { lives = tree_lives }
