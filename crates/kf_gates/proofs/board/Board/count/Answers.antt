use Rattle.std.proofs.Common.{rules}
use Rattle.kf_gates.proofs.Allowed.{count_allowed}
use Rattle.kf_gates.proofs.board.Board.count.Goals as goal

pub fetch_add-requires : goal.fetch_add-requires
fetch_add-requires c = (search rules, search rules, count_allowed _ _ _ _ c.requires.outside)
