use Rattle.std.proofs.Common.{List, ◌∷◌, ◌++◌, refl, sym, subst}
use Rattle.std.specs.Prelude.{Option}
use Rattle.std.specs.Option.{option_to_list}
use Rattle.kf_words.specs.Callers.{Handle, seat_view}
use Rattle.kf_shared.specs.Sections.{FirstDrained}
use Rattle.kf_shared.proofs.Finishing.{heard_seat}
use Rattle.kf_shared.proofs.Stepped.{waited_drained, waited_rested}
use Rattle.kf_shared.proofs.unlinking.wait_first.Goals as goal

pub returns-else-not-used_again-clause-waited : goal.returns-else-not-used_again-clause-waited
returns-else-not-used_again-clause-waited g c =
    let r = c.rest.ensures in
    subst (λ (o : Option Handle). FirstDrained (option_to_list o ++ c.args.holds.now.items) (c.rest.new.self ∷ c.args.holds.now.items)) (sym c.in-Some.is)
    (c.rest.new.self, heard_seat c.in-Some.first c.rest.new.self r.as_before, waited_rested r.rested.0 (seat_view c.in-Some.first) (seat_view c.rest.new.self) r.rested.1, refl)

pub returns-in-Some-pop_front-clause-waited : goal.returns-in-Some-pop_front-clause-waited
returns-in-Some-pop_front-clause-waited g c =
    let first = c.in-Some-pop_front.first in
    let w = c.wait_drained.result in
    subst (λ (o : Option Handle). FirstDrained (option_to_list o ++ c.args.holds.now.items) (w ∷ c.pop_front.new.self.items)) (sym c.in-None.is)
    (subst (λ (l : List Handle). FirstDrained l (w ∷ c.pop_front.new.self.items)) (sym c.in-Some-pop_front.ensures.items)
    (w, c.wait_drained.ensures.same, waited_drained (seat_view first) (seat_view w) c.wait_drained.ensures.waited, refl))
