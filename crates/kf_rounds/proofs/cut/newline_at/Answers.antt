use Rattle.kf_script.proofs.Places.{first_place}
use Rattle.kf_rounds.proofs.cut.newline_at.Goals as goal

pub returns : goal.returns
returns c = first_place 10 c.args.script.now c.memchr.result c.memchr.ensures
