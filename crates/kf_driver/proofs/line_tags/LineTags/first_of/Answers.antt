use Rattle.kf_driver.proofs.Places.{placed}
use Rattle.kf_driver.proofs.line_tags.LineTags.first_of.Goals as goal

pub returns-clause-placed : goal.returns-clause-placed
returns-clause-placed c = λ file within. placed c.args.self.now c.args.line file within
