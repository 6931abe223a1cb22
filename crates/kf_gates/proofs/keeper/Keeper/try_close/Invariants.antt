use Rattle.std.proofs.Common.{◌≡◌, ◌≤◌, ◌-◌, true, false}
use Rattle.std.specs.Arc.{arc_value}
use Rattle.kf_gates.specs.Rule.{looks_of}
use Rattle.kf_gates.specs.Board.{HasPlan, IsSameSeat}
use Rattle.kf_gates.proofs.keeper.Keeper.try_close.Given as goal

abbrev pub invariant-loop-plan : goal.invariant-loop-plan
invariant-loop-plan g l = IsSameSeat l.initial.seat l.seat × HasPlan l.plan l.seat.me.0 × (l.plan.shut ≡ true) × (l.plan.seen ≤ (arc_value l.board).lanes)
    × (l.plan.number ≡ l.initial.plan.number) × (l.plan.spare ≡ false)
    × (looks_of l.initial.seat.me.0 ≤ looks_of l.seat.me.0)

abbrev pub decreases-loop-plan : goal.decreases-loop-plan
decreases-loop-plan g l = (arc_value l.board).lanes - l.plan.seen
