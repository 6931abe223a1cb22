-- The node of a slot gets the marks of a live node.
use Rattle.std.proofs.Common.{◌≡◌, List, length-set, slice_set, refl, arith, sym, ap, ◌∙◌}
use Rattle.std.specs.Prelude.{Some}
use Rattle.kf_core.specs.declared.key.Key.{Key}
use Rattle.kf_core.specs.declared.slot.SlotState.{SlotState}
use Rattle.kf_core.specs.Marks.{fresh_marks, live_marks}
use Rattle.kf_words.specs.declared.view.MasterView.{MasterView}
use Rattle.kf_words.specs.Steps.{activated_marks, remarked, state_at}
use Rattle.kf_words.specs.Nodes.{MasterState, master_view, marks_of, slots_with}
use Rattle.kf_words.proofs.Keys.{slots_remarked}
use Rattle.kf_words.proofs.Searching.{marked_linked}
use Rattle.kf_words.proofs.master.Master.activate.Goals as goal

pub invariant_of-self : goal.invariant_of-self
invariant_of-self c =
    let key : Key = c.args.key in
    let own : MasterView = master_view c.self.inside.steps in
    let fresh : marks_of own key ≡ Some fresh_marks = ap (λ (s : MasterState). marks_of s.view key) c.self.view_is ∙ c.requires in
    let slots : List SlotState = c.self.inside.slots in
    let live : SlotState = record { generation = key.generation; marks = Some live_marks } in
    let long = length-set slots key.slot live in
    let root = c.self.invariant.root in
    let few = c.self.invariant.few in
    let all = c.self.invariant.all_nodes in
    rw c.set.ensures.set (record {
      root = omega arith;
      few = omega arith;
      same_slots = ap (λ (y : MasterView). y.slots) c.take_bias.ensures.view ∙ slots_remarked own key activated_marks fresh_marks fresh ∙ ap (λ (l : List SlotState). slots_with l key (Some live_marks)) c.self.invariant.same_slots;
      same_limit = ap (λ (y : MasterView). y.limit) c.take_bias.ensures.view ∙ c.self.invariant.same_limit;
      no_pin = ap (λ (y : MasterView). y.pinning) c.take_bias.ensures.view ∙ c.self.invariant.no_pin;
      all_nodes = all ∙ sym long;
      marked = marked_linked c.self.inside.full.items c.self.inside.full_groups.items slots key.slot live refl c.self.invariant.marked;
    })

pub returns-clause-slots : goal.returns-clause-slots
returns-clause-slots c =
    let m : MasterView = c.args.self.now.view in
    ap (λ (y : MasterView). y.slots) c.take_bias.ensures.view
    ∙ ap (λ (s : MasterState). slice_set s.view.slots c.args.key.slot (remarked activated_marks (state_at s.view c.args.key.slot))) c.self.view_is
    ∙ slots_remarked m c.args.key activated_marks fresh_marks c.requires
