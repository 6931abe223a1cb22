-- The marks change as the event says.
use Rattle.std.proofs.Common.{◌≡◌, ap, sym, subst}
use Rattle.std.specs.Prelude.{slice_get, Some}
use Rattle.kf_core.specs.declared.event.Event.TheVariants.{Mark}
use Rattle.kf_core.specs.Bare.{marks_in}
use Rattle.kf_world.specs.Bounded.{BoundedWorld}
use Rattle.kf_world.proofs.Events.{linked_now, marks_within, mark_step}
use Rattle.kf_world.proofs.world.World.doom.Goals as goal

pub put_marks-requires-clause-within : goal.put_marks-requires-clause-within
put_marks-requires-clause-within c =
    let is = subst (λ xs. marks_in (slice_get xs c.args.key.slot) c.args.key.generation ≡ Some c.in-Some.marks) (ap (λ (b : BoundedWorld). b.world.slots) c.self.view_is) (sym c.in-Some.ensures) in
    marks_within c.args.self.now.world c.args.key c.in-Some.marks is

pub put_marks-requires-clause-step : goal.put_marks-requires-clause-step
put_marks-requires-clause-step c =
    let is = subst (λ xs. marks_in (slice_get xs c.args.key.slot) c.args.key.generation ≡ Some c.in-Some.marks) (ap (λ (b : BoundedWorld). b.world.slots) c.self.view_is) (sym c.in-Some.ensures) in
    (Mark c.args.key, mark_step c.args.self.now.world c.requires.may.0 c.args.key c.in-Some.marks is c.requires.may.1)

pub put_marks-requires-clause-taken : goal.put_marks-requires-clause-taken
put_marks-requires-clause-taken c =
    let is = subst (λ xs. marks_in (slice_get xs c.args.key.slot) c.args.key.generation ≡ Some c.in-Some.marks) (ap (λ (b : BoundedWorld). b.world.slots) c.self.view_is) (sym c.in-Some.ensures) in
    linked_now c.args.self.now.world c.args.key _ (marks_within c.args.self.now.world c.args.key c.in-Some.marks is)
