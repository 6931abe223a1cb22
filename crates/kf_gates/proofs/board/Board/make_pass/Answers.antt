use Rattle.std.proofs.Common.{rules}
use Rattle.kf_gates.proofs.Allowed.{pass_allowed}
use Rattle.kf_gates.proofs.board.Board.make_pass.Goals as goal

pub split_seat-requires : goal.split_seat-requires
split_seat-requires c = (search rules, search rules, pass_allowed _ _ _ c.requires.due)
