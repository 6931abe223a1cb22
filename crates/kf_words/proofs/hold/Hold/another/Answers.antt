use Rattle.std.proofs.Common.{subst}
use Rattle.kf_words.specs.Callers.{Handle, handle_of, sight_of, seat_view}
use Rattle.kf_words.specs.Another.{WasCountedFor}
use Rattle.kf_words.proofs.hold.Hold.another.Goals as goal

pub returns-clause-made : goal.returns-clause-made
returns-clause-made c =
    subst (λ (h : Handle). WasCountedFor (seat_view h) (sight_of c.another.new.self) (handle_of c.in_ok-seat.seat).seen) c.self.view_is c.in_ok-seat.ensures.counted
