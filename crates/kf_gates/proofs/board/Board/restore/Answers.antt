use Rattle.std.proofs.Common.{rules}
use Rattle.kf_gates.proofs.Allowed.{restore_allowed}
use Rattle.kf_gates.proofs.board.Board.restore.Goals as goal

pub fetch_add-requires : goal.fetch_add-requires
fetch_add-requires c = (search rules, search rules, restore_allowed _ _ _ _ _ c.requires.broken (search rules))
