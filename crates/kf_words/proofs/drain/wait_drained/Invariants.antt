use Rattle.std.proofs.Common.{◌≡◌}
use Rattle.kf_words.specs.Callers.{IsSameSeat, IsAtRest, handle_of, sight_of, view_of}
use Rattle.kf_words.specs.TableSteps.{looks}
use Rattle.kf_words.specs.Layout.{last_user_wakes}
use Rattle.kf_words.proofs.Waits.{SoFar}
use Rattle.kf_words.proofs.drain.wait_drained.Given as goal

abbrev pub invariant-loop : goal.invariant-loop
invariant-loop g l = record {
  same : IsSameSeat (handle_of l.initial.seat) (handle_of l.seat);
  waits : IsAtRest (view_of l.seat);
  untried : (view_of l.seat).tries ≡ (view_of l.initial.seat).tries;
  waited : SoFar looks last_user_wakes (sight_of l.initial.seat) (sight_of l.seat);
}
