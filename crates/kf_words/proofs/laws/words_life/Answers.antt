use Rattle.kf_words.proofs.Life.{lives}
use Rattle.kf_words.proofs.Histories.{life_is_kept}
use Rattle.kf_words.proofs.laws.words_life.Goals as goal

pub returns : goal.returns
returns c = record { lives = lives; kept = life_is_kept }
