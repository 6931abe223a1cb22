use Rattle.std.proofs.Common.{◌-◌, map, take, length, []}
use Rattle.kf_rounds.specs.KindViews.{kind_view}
use Rattle.kf_rounds.specs.Seats.{boards}
use Rattle.kf_rounds.specs.Turns.{Replied}
use Rattle.kf_rounds.proofs.rounds.run_rounds.Given as goal

-- the lines of the rounds so far have their replies
abbrev pub invariant-loop-from : goal.invariant-loop-from
invariant-loop-from g l = Replied g.B.Board.step (map kind_view (take l.from l.kinds.items)) (boards l.fn.seats) (boards l.seats) [] l.out.items

abbrev pub decreases-loop-from : goal.decreases-loop-from
decreases-loop-from g l = length l.kinds.items - l.from
