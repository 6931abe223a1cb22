use Rattle.std.proofs.Common.{◌≤◌, ◌++◌, ◌∷◌, [], length, length-append, refl, arith, subst}
use Rattle.kf_core.specs.Limits.{most_slots}
use Rattle.kf_core.specs.Lawful.{Lawful}
use Rattle.kf_tree.specs.TreeLogs.{TreeLog}
use Rattle.kf_tree.specs.Orders.{IsNextInPostOrder}
use Rattle.kf_tree.proofs.Tours.{next_up_to, ended, fewer_passed}
use Rattle.kf_tree.proofs.state.State.tour_on.Goals as goal

pub overflow_add-result : goal.overflow_add-result
overflow_add-result c =
    let lawful : Lawful c.args.self.now.tree c.args.self.now.root = subst (λ (s : TreeLog). Lawful s.tree s.root) c.self.view_is c.self.invariant.kept.lawful in
    let few : length c.args.self.now.tree ≤ most_slots = subst (λ (s : TreeLog). length s.tree ≤ most_slots) c.self.view_is c.self.invariant.few in
    let here = c.requires.here in
    let fewer = fewer_passed c.args.self.now.tree c.args.self.now.root lawful c.args.tour.top c.args.tour.key here.0 here.1.up_to in
    let counted = here.1.counted in
    omega (arith, few, fewer, counted)

pub returns-in-Some-clause-next : goal.returns-in-Some-clause-next
returns-in-Some-clause-next c = λ keys passed.
    (let lawful : Lawful c.args.self.now.tree c.args.self.now.root = subst (λ (s : TreeLog). Lawful s.tree s.root) c.self.view_is c.self.invariant.kept.lawful in
    let next = subst (λ (s : TreeLog). IsNextInPostOrder s.tree c.args.tour.top c.args.tour.key c.in-Some.key) c.self.view_is c.in-Some.ensures.next in
    let long = length-append keys (c.args.tour.key ∷ []) in
    let counted = passed.counted in
    record {
      up_to = next_up_to c.args.self.now.tree c.args.self.now.root lawful c.args.tour.top c.args.tour.key c.in-Some.key keys (keys ++ c.args.tour.key ∷ []) next passed.up_to refl;
      counted = omega (arith, long, counted);
    })

pub returns-in-Some-clause-few : goal.returns-in-Some-clause-few
returns-in-Some-clause-few c =
    let lawful : Lawful c.args.self.now.tree c.args.self.now.root = subst (λ (s : TreeLog). Lawful s.tree s.root) c.self.view_is c.self.invariant.kept.lawful in
    let next = subst (λ (s : TreeLog). IsNextInPostOrder s.tree c.args.tour.top c.args.tour.key c.in-Some.key) c.self.view_is c.in-Some.ensures.next in
    let here = c.requires.here in
    let keys = here.0 ++ c.args.tour.key ∷ [] in
    let up_to = next_up_to c.args.self.now.tree c.args.self.now.root lawful c.args.tour.top c.args.tour.key c.in-Some.key here.0 keys next here.1.up_to refl in
    let fewer = fewer_passed c.args.self.now.tree c.args.self.now.root lawful c.args.tour.top c.in-Some.key keys up_to in
    let long = length-append here.0 (c.args.tour.key ∷ []) in
    let counted = here.1.counted in
    (omega arith, omega (arith, fewer, long, counted))

pub returns-in-None-clause-whole : goal.returns-in-None-clause-whole
returns-in-None-clause-whole c = λ keys passed.
    (let lawful : Lawful c.args.self.now.tree c.args.self.now.root = subst (λ (s : TreeLog). Lawful s.tree s.root) c.self.view_is c.self.invariant.kept.lawful in
    (ended c.args.self.now.tree c.args.self.now.root lawful c.args.tour.top c.args.tour.key keys (keys ++ c.args.tour.key ∷ []) c.in-None.ensures.end passed.up_to refl).0)
