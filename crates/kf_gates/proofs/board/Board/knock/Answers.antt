use Rattle.std.proofs.Common.{rules, refl}
use Rattle.kf_gates.proofs.Allowed.{knock_allowed, look_allowed}
use Rattle.kf_gates.proofs.board.Board.knock.Goals as goal

pub fetch_add-requires : goal.fetch_add-requires
fetch_add-requires c = (search rules, search rules, knock_allowed _ _ _ _ _ c.requires.outside (search rules))

pub load-requires : goal.load-requires
load-requires c = (search rules, search rules, look_allowed _ _ _ _ c.args.lane (c.fetch_add.ensures.2 c.args.lane refl))

pub returns-clause-made : goal.returns-clause-made
returns-clause-made c = c.load.ensures.2 c.args.lane (c.fetch_add.ensures.2 c.args.lane refl)
