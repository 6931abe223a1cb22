-- The key has the next generation of the lowest free slot.
use Rattle.std.proofs.Common.{◌<◌, ◌+◌, length, arith, ap, subst}
use Rattle.std.proofs.lemmas.Option.{slice_get_within}
use Rattle.kf_world.specs.Bounded.{BoundedWorld, IsFree}
use Rattle.kf_world.proofs.Events.{found}
use Rattle.kf_world.proofs.Kept.{free_state}
use Rattle.kf_world.proofs.world.World.free_key.Goals as goal

pub at-requires : goal.at-requires
at-requires c =
    let there = subst (λ (b : BoundedWorld). IsFree b.world c.in_ok-slot.slot → c.in_ok-slot.slot < length c.self.inside.slots) c.self.view_is (λ f. slice_get_within c.self.inside.slots c.in_ok-slot.slot _ f.unlinked) c.in_ok-slot.ensures.free in
    record { within = there }

pub overflow_add-result : goal.overflow_add-result
overflow_add-result c =
    let is = found _ _ c.in_ok-slot.slot c.at.result _ (ap (λ (b : BoundedWorld). b.world.slots) c.self.view_is) c.at.ensures.known c.in_ok-slot.ensures.free.unlinked in
    omega (arith, (free_state c.args.self.now.world c.in_ok-slot.slot c.at.result c.in_ok-slot.ensures.free is).1)

pub returns-clause-next : goal.returns-clause-next
returns-clause-next c =
    let is = found _ _ c.in_ok-slot.slot c.at.result _ (ap (λ (b : BoundedWorld). b.world.slots) c.self.view_is) c.at.ensures.known c.in_ok-slot.ensures.free.unlinked in
    record {
      from_one = c.in_ok-slot.ensures.from_one;
      free = c.in_ok-slot.ensures.free;
      next = ap (λ n. n + 1) (free_state c.args.self.now.world c.in_ok-slot.slot c.at.result c.in_ok-slot.ensures.free is).0;
      lowest = c.in_ok-slot.ensures.lowest;
    }
