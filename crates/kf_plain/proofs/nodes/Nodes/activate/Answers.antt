use Rattle.std.proofs.Common.{rules, ap, filter, ◌∙◌}
use Rattle.std.proofs.lemmas.Fn.{filter_same}
use Rattle.kf_plain.specs.Fresh.{is_fresh_key}
use Rattle.kf_plain.proofs.Risen.{different_listed, fresh_listed, tied_risen}
use Rattle.kf_plain.proofs.Ties.{logs}
use Rattle.kf_plain.proofs.HiddenMarks.{told_after, told_activated, told_callers}
use Rattle.kf_plain.proofs.nodes.Nodes.activate.Goals as goal

pub rise_each-requires-clause-different : goal.rise_each-requires-clause-different
rise_each-requires-clause-different c =
    different_listed c.self.inside.state c.self.inside.world.world c.args.key c.as_slice-3.result.now c.in_ok-order.order.items c.self.invariant.0 c.in_ok-order.ensures.ordered
    (c.as_slice-3.ensures.value ∙ filter_same _ (is_fresh_key c.self.inside.state.tree) _ (λ x b f' k. search rules) _ _ c.retain.ensures.filtered ∙ ap (filter (is_fresh_key c.self.inside.state.tree)) (c.in_ok-risen.ensures.items ∙ c.as_slice.ensures.value))

pub rise_each-requires-clause-fresh : goal.rise_each-requires-clause-fresh
rise_each-requires-clause-fresh c =
    fresh_listed c.self.inside.state.tree c.as_slice-3.result.now c.in_ok-order.order.items c.self.inside.world.world c.self.invariant.0.marks
    (c.as_slice-3.ensures.value ∙ filter_same _ (is_fresh_key c.self.inside.state.tree) _ (λ x b f' k. search rules) _ _ c.retain.ensures.filtered ∙ ap (filter (is_fresh_key c.self.inside.state.tree)) (c.in_ok-risen.ensures.items ∙ c.as_slice.ensures.value))

pub invariant_of-self-2 : goal.invariant_of-self-2
invariant_of-self-2 c = (
  tied_risen c.self.inside.state c.activate_in_order.new.self c.self.inside.world c.rise_each.new.world c.args.key c.as_slice-3.result.now c.in_ok-order.order.items c.self.invariant.0 c.in_ok-order.ensures.ordered
      (c.as_slice-3.ensures.value ∙ filter_same _ (is_fresh_key c.self.inside.state.tree) _ (λ x b f' k. search rules) _ _ c.retain.ensures.filtered ∙ ap (filter (is_fresh_key c.self.inside.state.tree)) (c.in_ok-risen.ensures.items ∙ c.as_slice.ensures.value))
      c.rise_each.ensures.risen c.rise_each.ensures.only (logs c.in_ok-activate_in_order.ensures.accepted),
  told_after c.self.inside.state c.activate_in_order.new.self c.rise_each.new.world.world _ (logs c.in_ok-activate_in_order.ensures.accepted)
      (told_callers _ c.self.inside.world c.rise_each.new.world (told_activated c.self.inside.state.tree c.self.inside.world.world c.self.invariant.1 c.args.key) c.rise_each.ensures.only.callers),
)
