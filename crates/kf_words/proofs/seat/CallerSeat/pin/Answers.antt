use Rattle.std.proofs.Common.{inl, refl, arith}
use Rattle.kf_words.specs.Callers.{sight_of}
use Rattle.kf_words.proofs.seat.CallerSeat.pin.Goals as goal

pub returns-in_default-clause-refused : goal.returns-in_default-clause-refused
returns-in_default-clause-refused c =
    inl ((1, omega arith, omega arith, (sight_of c.args.self.now, refl, c.refuse_pin.ensures.made)), c.refuse_pin.ensures.refused)
