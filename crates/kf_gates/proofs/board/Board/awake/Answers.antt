use Rattle.std.proofs.Common.{rules}
use Rattle.kf_gates.specs.Runs.{one_less}
use Rattle.kf_gates.proofs.Allowed.{sleep_allowed}
use Rattle.kf_gates.proofs.board.Board.awake.Goals as goal

pub fetch_sub-requires : goal.fetch_sub-requires
fetch_sub-requires c = (search rules, search rules, sleep_allowed _ _ _ _ 1 one_less c.requires.keeps)
