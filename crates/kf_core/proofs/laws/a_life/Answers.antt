use Rattle.kf_core.proofs.Life.{lives}
use Rattle.kf_core.proofs.laws.a_life.Goals as goal

pub returns : goal.returns
returns c = record { lives = lives }
