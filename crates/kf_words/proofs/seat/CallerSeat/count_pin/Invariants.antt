use Rattle.std.proofs.Common.{◌≡◌, ◌≢◌}
use Rattle.kf_words.specs.TableSteps.{sees_holds_at}
use Rattle.kf_words.specs.Callers.{IsSameSeat, IsAtRest, handle_of, sight_of, view_of}
use Rattle.kf_words.specs.Another.{StaysAs, WereOutrun}
use Rattle.kf_words.specs.Pins.{HasSlotOf}
use Rattle.kf_words.proofs.seat.CallerSeat.count_pin.Given as goal

abbrev pub invariant-loop-tries : goal.invariant-loop-tries
invariant-loop-tries l = record {
  same : IsSameSeat (handle_of l.fn.self) (handle_of l.self);
  stays : StaysAs (handle_of l.fn.self) (handle_of l.self);
  rests : IsAtRest (view_of l.self);
  there : HasSlotOf (handle_of l.self) l.key;
  outrun : WereOutrun (sees_holds_at l.key.slot) l.tries (sight_of l.fn.self) (sight_of l.self);
  near : l.tries ≢ 0 → l.guess ≡ (view_of l.self).found;
}
