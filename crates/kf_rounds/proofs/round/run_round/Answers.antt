use Rattle.std.proofs.Common.{map}
use Rattle.kf_rounds.specs.Kinds.{commands_of}
use Rattle.kf_rounds.specs.KindViews.{kind_view}
use Rattle.kf_rounds.specs.Seats.{board_of, untaken}
use Rattle.kf_rounds.proofs.Turning.{each_told}
use Rattle.kf_rounds.proofs.round.run_round.Goals as goal

pub returns-clause-told : goal.returns-clause-told
returns-clause-told g c =
    each_told g.B.Board.step board_of untaken c.args.seats.now c.run_each.new.seats (λ who. commands_of who (map kind_view c.args.kinds.now)) c.run_each.ensures.len c.run_each.ensures.tells
