use Rattle.std.proofs.Common.{rules}
use Rattle.kf_gates.proofs.Allowed.{uncount_allowed}
use Rattle.kf_gates.proofs.board.Board.uncount.Goals as goal

pub fetch_sub-requires : goal.fetch_sub-requires
fetch_sub-requires c = (search rules, search rules, uncount_allowed _ _ _ _ c.requires.counted)
