use Rattle.std.proofs.Common.{rules}
use Rattle.kf_gates.proofs.Allowed.{break_allowed}
use Rattle.kf_gates.proofs.board.Board.break_off.Goals as goal

pub fetch_sub-found-requires : goal.fetch_sub-found-requires
fetch_sub-found-requires c = (search rules, search rules, break_allowed _ _ _ _ _ c.requires.inside (search rules))
