use Rattle.std.proofs.Common.{rules}
use Rattle.kf_gates.proofs.Allowed.{leave_allowed}
use Rattle.kf_gates.proofs.board.Board.step_back.Goals as goal

pub fetch_sub-requires : goal.fetch_sub-requires
fetch_sub-requires c = (search rules, search rules, leave_allowed _ _ _ _ _ c.requires.counts (search rules))
