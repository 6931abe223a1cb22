use Rattle.std.proofs.Common.{rules}
use Rattle.kf_gates.specs.Runs.{one_more}
use Rattle.kf_gates.proofs.Allowed.{sleep_allowed}
use Rattle.kf_gates.proofs.board.Board.fall_asleep.Goals as goal

pub fetch_add-requires : goal.fetch_add-requires
fetch_add-requires c = (search rules, search rules, sleep_allowed _ _ _ _ 1 one_more c.requires.keeps)
