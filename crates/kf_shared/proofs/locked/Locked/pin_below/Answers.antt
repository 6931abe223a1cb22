use Rattle.std.proofs.Common.{rules, ap, take, [], ◌∷◌, ◌-◌}
use Rattle.std.proofs.lemmas.Result.{err_from_is_err_and}
use Rattle.kf_shared.specs.Locked.{Locked}
use Rattle.kf_shared.proofs.Ties.{linked_in_words}
use Rattle.kf_shared.proofs.Told.{held_master}
use Rattle.kf_shared.proofs.Ends.{all_but_last}
use Rattle.kf_shared.proofs.Pins.{pins_given_up}
use Rattle.kf_shared.proofs.locked.Locked.pin_below.Goals as goal

pub pin_each-requires : goal.pin_each-requires
pin_each-requires g c = record {
  linked = linked_in_words c.self.inside.master.view.slots c.self.inside.state.log.tree c.args.key c.in_ok-order.order.items c.in_ok-order.ensures.last.0 (c.args.key ∷ []) _ c.self.invariant.0.marks c.in_ok-order.ensures.ordered
      c.in_ok-order.ensures.last.1 (all_but_last c.in_ok-order.order.items c.in_ok-order.ensures.last.0 c.as_slice.result.now c.args.key c.len.result c.in_ok-order.ensures.last.1 c.as_slice.ensures.value (search rules));
}

pub invariant_of-self : goal.invariant_of-self
invariant_of-self g c = held_master g.N.Naming.table c.self.inside.state c.self.inside.master c.pin_each.new.master c.self.inside.claims.items c.self.invariant c.pin_each.ensures.kept

pub invariant_of-self-2 : goal.invariant_of-self-2
invariant_of-self-2 g c = held_master g.N.Naming.table c.self.inside.state c.self.inside.master c.pin_each.new.master c.self.inside.claims.items c.self.invariant c.pin_each.ensures.kept

pub returns-in_err-pins-clause-given_up : goal.returns-in_err-pins-clause-given_up
returns-in_err-pins-clause-given_up g c =
    let p = err_from_is_err_and c.from_residual-in_err-pins.result c.from_residual-in_err-pins.ensures.1 in
    rw p.1 (pins_given_up c.self.inside.state.log c.args.self.now.state c.pin_each.new.master.view c.args.key c.in_ok-order.order.items c.in_ok-order.ensures.last.0 (take (c.len.result - 1) c.as_slice.result.now)
    c.in_ok-may_doom.ensures.kept c.in_ok-order.ensures.ordered c.in_ok-order.ensures.last.1
    (all_but_last c.in_ok-order.order.items c.in_ok-order.ensures.last.0 c.as_slice.result.now c.args.key c.len.result c.in_ok-order.ensures.last.1 c.as_slice.ensures.value (search rules))
    c.in_ok-may_doom.ensures.checked (ap (λ (l : Locked). l.state) c.self.view_is) c.requires.linked _ _ p.2 c.in_err-pins.ensures.refused)
