use Rattle.kf_script.proofs.Places.{first_place}
use Rattle.kf_script.proofs.search.place_of.Goals as goal

pub returns-in-0-to-3 : goal.returns-in-0-to-3
returns-in-0-to-3 c = first_place c.args.byte c.args.bytes.now c.memchr.result c.memchr.ensures
