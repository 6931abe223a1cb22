use Rattle.std.proofs.Common.{subst}
use Rattle.kf_words.specs.Callers.{Handle, handle_of, sight_of, seat_view}
use Rattle.kf_words.specs.Pins.{WasHeldFor}
use Rattle.kf_words.proofs.hold.Hold.pin.Goals as goal

pub returns-clause-made : goal.returns-clause-made
returns-clause-made c =
    subst (λ (h : Handle). WasHeldFor c.args.key (seat_view h) (sight_of c.pin.new.self) (handle_of c.in_ok-seat.seat)) c.self.view_is c.in_ok-seat.ensures.made
