use Rattle.std.proofs.Common.{map, take}
use Rattle.kf_rounds.specs.Kinds.{commands_of}
use Rattle.kf_rounds.specs.KindViews.{kind_view}
use Rattle.kf_rounds.specs.Seats.{board_of, untaken}
use Rattle.kf_rounds.proofs.Telling.{TellsAll}
use Rattle.kf_rounds.proofs.runner.Runner.run_own.Given as goal

-- each command so far has its reply
abbrev pub invariant-loop-kind : goal.invariant-loop-kind
invariant-loop-kind g l = TellsAll g.B.Board.step (board_of l.fn.self) (commands_of l.who (take l.kind-index (map kind_view l.kinds))) (untaken l.self) (board_of l.self)
