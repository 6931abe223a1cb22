use Rattle.std.proofs.Common.{◌≡◌, ◌≤◌, true, false}
use Rattle.std.specs.Arc.{arc_value}
use Rattle.kf_gates.specs.Board.{HasPlan, IsSameSeat}
use Rattle.kf_gates.proofs.keeper.Keeper.wait_closed.Given as goal

abbrev pub invariant-loop : goal.invariant-loop
invariant-loop g l = IsSameSeat l.initial.seat l.seat × HasPlan l.plan l.seat.me.0 × (l.plan.shut ≡ true) × (l.plan.seen ≤ (arc_value l.board).lanes)
    × (l.plan.number ≡ l.initial.plan.number) × (l.plan.spare ≡ false)
