use Rattle.std.proofs.Common.{◌≡◌, inl, inr, ◌++◌, ◌∷◌, [], length, rules, arith, refl, ap, sym, ◌∙◌, subst, true}
use Rattle.kf_core.specs.Tree.{in_subtree}
use Rattle.kf_core.specs.PostOrder.{IsPostOrder}
use Rattle.kf_shared.proofs.Rooms.{linked_within, rooms_more, all_rooms, none_below}
use Rattle.kf_shared.proofs.Pinned.{kept_after}
use Rattle.kf_shared.proofs.pinning.full_or_no_memory.Goals as goal

pub returns-in_default-clause-refused : goal.returns-in_default-clause-refused
returns-in_default-clause-refused c = inr (
  refl,
  none_below c.args.state.now.tree c.args.state.now.root c.args.top c.args.master.now.view c.root.ensures.kept.lawful c.in_default.ensures.absent,
)

pub returns-then-not-room-clause-rooms : goal.returns-then-not-room-clause-rooms
returns-then-not-room-clause-rooms c = λ slot here. c.room.ensures.rooms slot (c.below.invariant.rooms slot here)

pub returns-then-not-room-clause-refused : goal.returns-then-not-room-clause-refused
returns-then-not-room-clause-refused c =
    let up_to = c.below.invariant.passed.1.up_to in
    let near = linked_within c.args.state.now.tree c.below.tour.key up_to.linked in
    let same : length c.below.master.view.slots ≡ length c.args.master.now.view.slots = ap length c.below.invariant.kept.slots in
    let as_many = c.requires.slots in
    inl (
      refl,
      (
        c.below.tour.key,
        (λ e. c.in-Some-tour_on.ensures.inside (e ∙ sym c.below.invariant.top)),
        subst (λ k. in_subtree c.args.state.now.tree k c.below.tour.key ≡ true) c.below.invariant.top up_to.below,
        c.room.ensures.full (search rules) (omega (arith, near, same, as_many)),
      ),
    )

pub below-preserved : goal.below-preserved
below-preserved c =
    let before = c.below.invariant in
    record {
      kept = kept_after c.args.master.now c.below.master c.room.new.self before.kept c.room.ensures.kept;
      rooms = λ slot here. c.room.ensures.rooms slot (before.rooms slot here);
      top = c.in-Some-tour_on.ensures.top ∙ before.top;
      passed = (
        before.passed.0 ++ c.below.tour.key ∷ [],
        c.in-Some-tour_on.ensures.next before.passed.0 before.passed.1,
        rooms_more c.below.master.view c.room.new.self.view before.passed.0 c.below.tour.key before.passed.2 c.room.ensures.rooms (c.room.ensures.room (search rules)),
      );
    }

pub returns-clause-refused : goal.returns-clause-refused
returns-clause-refused c =
    let at = c.below.invariant in
    let keys = at.passed.0 in
    let order = subst (λ k. IsPostOrder c.args.state.now.tree k (keys ++ c.below.tour.key ∷ [])) at.top (c.in_default-tour_on.ensures.whole keys at.passed.1) in
    inr (refl, all_rooms c.args.state.now.tree c.args.top c.below.tour.key c.below.master.view keys (c.in_default-tour_on.ensures.end ∙ at.top) order at.passed.2)
