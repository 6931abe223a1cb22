-- The node of a slot gets the mark of a doomed node.
use Rattle.std.proofs.Common.{◌≡◌, List, length-set, slice_set, refl, arith, sym, ap, ◌∙◌}
use Rattle.std.specs.Prelude.{Some}
use Rattle.kf_core.specs.declared.key.Key.{Key}
use Rattle.kf_core.specs.declared.slot.NodeFlags.{NodeFlags}
use Rattle.kf_core.specs.declared.slot.SlotState.{SlotState}
use Rattle.kf_words.specs.declared.view.MasterView.{MasterView}
use Rattle.kf_words.specs.Steps.{doomed_marks, remarked, state_at}
use Rattle.kf_words.specs.Nodes.{MasterState, master_view, marks_of, slots_with}
use Rattle.kf_words.proofs.Keys.{slots_remarked}
use Rattle.kf_words.proofs.Searching.{marked_linked}
use Rattle.kf_words.proofs.master.Master.doom.Goals as goal

pub invariant_of-self : goal.invariant_of-self
invariant_of-self c =
    let key : Key = c.args.key in
    let own : MasterView = master_view c.self.inside.steps in
    let x : NodeFlags = c.in-Some.marks in
    let had : marks_of own key ≡ Some x = ap (λ (s : MasterState). marks_of s.view key) c.self.view_is ∙ sym c.marks.ensures ∙ c.in-Some.is in
    let slots : List SlotState = c.self.inside.slots in
    let state : SlotState = record { generation = key.generation; marks = Some (doomed_marks x) } in
    let long = length-set slots key.slot state in
    let root = c.self.invariant.root in
    let few = c.self.invariant.few in
    let all = c.self.invariant.all_nodes in
    rw c.set.ensures.set (record {
      root = omega arith;
      few = omega arith;
      same_slots = ap (λ (y : MasterView). y.slots) c.mark_node.ensures.view ∙ slots_remarked own key doomed_marks x had ∙ ap (λ (l : List SlotState). slots_with l key (Some (doomed_marks x))) c.self.invariant.same_slots;
      same_limit = ap (λ (y : MasterView). y.limit) c.mark_node.ensures.view ∙ c.self.invariant.same_limit;
      no_pin = ap (λ (y : MasterView). y.pinning) c.mark_node.ensures.view ∙ c.self.invariant.no_pin;
      all_nodes = all ∙ sym long;
      marked = marked_linked c.self.inside.full.items c.self.inside.full_groups.items slots key.slot state refl c.self.invariant.marked;
    })

pub returns-in-Some-clause-slots : goal.returns-in-Some-clause-slots
returns-in-Some-clause-slots c x had =
    let m : MasterView = c.args.self.now.view in
    ap (λ (y : MasterView). y.slots) c.mark_node.ensures.view
    ∙ ap (λ (s : MasterState). slice_set s.view.slots c.args.key.slot (remarked doomed_marks (state_at s.view c.args.key.slot))) c.self.view_is
    ∙ slots_remarked m c.args.key doomed_marks x had
