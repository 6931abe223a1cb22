-- The new caller is counted.
use Rattle.std.proofs.Common.{◌<◌, length, arith, sym, subst, refl}
use Rattle.std.proofs.lemmas.Option.{slice_get-get_or}
use Rattle.kf_core.specs.declared.event.Event.TheVariants.{Pin}
use Rattle.kf_core.specs.Steps.{MayPin}
use Rattle.kf_world.specs.Bounded.{BoundedWorld}
use Rattle.kf_world.specs.Counts.{no_counts}
use Rattle.kf_world.proofs.Events.{pin_within}
use Rattle.kf_world.proofs.Kept.{few_counts, pinned_kept}
use Rattle.kf_world.proofs.world.World.add_caller.Goals as goal

pub hold-requires-clause-within : goal.hold-requires-clause-within
hold-requires-clause-within c =
    let may = subst (λ (b : BoundedWorld). MayPin b.world c.args.key) (sym c.self.view_is) c.requires.may in
    omega (arith, pin_within _ c.args.key c.self.invariant.safe may, c.self.invariant.as_long)

pub hold-requires-clause-few : goal.hold-requires-clause-few
hold-requires-clause-few c counts is = omega (arith, (few_counts _ _ _ _ _ c.self.invariant is).0, c.self.inside.callers.ok.0)

pub invariant_of-self-2 : goal.invariant_of-self-2
invariant_of-self-2 c =
    let may = subst (λ (b : BoundedWorld). MayPin b.world c.args.key) (sym c.self.view_is) c.requires.may in
    let within : c.args.key.slot < length c.self.inside.counts = omega (arith, pin_within _ c.args.key c.self.invariant.safe may, c.self.invariant.as_long) in
    let is = slice_get-get_or c.self.inside.counts c.args.key.slot no_counts within in
    rw (c.hold.ensures.held _ is) (rw c.in_ok-push.ensures.items
    (pinned_kept _ c.args.key _ _ _ _ c.self.invariant (Pin (length c.self.inside.callers.items) c.args.key) (refl, may, refl) is refl (omega arith) (omega arith)))
