use Rattle.std.proofs.Common.{◌≡◌, ◌∙◌, ◌++◌, ◌∷◌, ◌<◌, ap, sym, subst, map, false}
use Rattle.std.specs.Prelude.{All, Result, Ok, Err, IfErr, IsErrAnd}
use Rattle.kf_core.specs.declared.refusal.Refusal.{Refusal}
use Rattle.kf_core.specs.declared.key.Key.{Key}
use Rattle.kf_core.specs.declared.command.Command.TheVariants.{Doom, Unlink}
use Rattle.kf_core.specs.Keys.{same_key}
use Rattle.kf_core.specs.PostOrder.{IsPostOrder}
use Rattle.kf_tree.specs.SlotMarks.{Changed, doomed_if}
use Rattle.kf_world.specs.Bounded.{BoundedWorld, hold_count}
use Rattle.kf_plain.specs.Nodes.{Nodes, AllIdle, has_full_below, logged, with_spent, nodes_of}
use Rattle.kf_plain.specs.Removals.{Cleared, PinsRefused, still_on, with_callers}
use Rattle.kf_plain.proofs.Pins.{given_back, may_all_release}
use Rattle.kf_plain.proofs.Removed.{RefusedSo, no_doom_cause, pins_refused, doom_refused, seen_room, all_different, all_undoomed, same_after, all_doomed, all_children_first, all_idle, tied_removed, told_removed, seen_removed}
use Rattle.kf_core.specs.Agrees.{AgreesHidden}
use Rattle.kf_tree.specs.TreeLogs.{TreeLog}
use Rattle.kf_plain.specs.Nodes.{AreTied}
use Rattle.kf_plain.proofs.BoardVisits.{tied_slots, held_stays}
use Rattle.kf_plain.proofs.HiddenMarks.{told_spent}
use Rattle.kf_plain.proofs.Ties.{logs}
use Rattle.kf_plain.proofs.nodes.Nodes.remove.Goals as goal

-- what holds for a refusal holds for a result with this refusal
refused_with : {X : Type 0} (Q : Refusal → Type 0) (result : Result X Refusal) (refusal : Refusal) → IsErrAnd result (λ e. e ≡ refusal) → Q refusal → IfErr result Q
refused_with Q (Ok x) refusal h q = tt
refused_with Q (Err e) refusal h q = subst Q (sym h) q

pub pin_each-requires-clause-different : goal.pin_each-requires-clause-different
pin_each-requires-clause-different c = all_different c.self.inside.state c.self.inside.world c.args.key c.in_ok-keys.keys.items c.self.invariant.0 c.in_ok-keys.ensures.ordered c.as_slice.result.now c.as_slice.ensures.value

pub returns-in_err-first-clause-refused : goal.returns-in_err-first-clause-refused
returns-in_err-first-clause-refused c =
    let s = c.self.inside.state in
    let w = c.self.inside.world in
    let keys = c.in_ok-keys.keys.items in
    let other : same_key c.args.key s.root ≡ false = ap (same_key c.args.key) (sym c.root.ensures.known) ∙ sym c.eq.ensures ∙ c.if-eq.false in
    refused_with _ _ c.in_err-first.field-0.0 c.from_residual-in_err-first.ensures.1
    (subst (λ n. RefusedSo n c.args.key c.in_err-first.field-0.0 (nodes_of s c.pin_each.new.world)) c.self.view_is
    (pins_refused s w c.args.key keys c.self.invariant.0 c.in_ok-keys.ensures.ordered c.pin_each.new.world c.in_err-first.field-0.0 (no_doom_cause s.tree s.root c.args.key c.in_ok-keys.ensures.linked other)
    (subst (λ ks. PinsRefused w ks c.in_err-first.field-0.0) c.as_slice.ensures.value c.in_err-first.ensures.refused.0, c.in_err-first.ensures.refused.1)))

pub release_from-requires-clause-held : goal.release_from-requires-clause-held
release_from-requires-clause-held c = may_all_release c.self.inside.world c.pin_each.new.world c.as_slice.result.now c.in_ok-first.first c.in_ok-first.ensures.held c.in_ok-first.ensures.number

pub returns-in-Err-clause-refused : goal.returns-in-Err-clause-refused
returns-in-Err-clause-refused c =
    subst (λ n. RefusedSo n c.args.key c.in-Err.refusal (nodes_of c.doom_in_order.new.self c.release_from.new.world)) c.self.view_is
    (doom_refused c.self.inside.state c.doom_in_order.new.self c.self.inside.world c.release_from.new.world c.args.key c.as_slice.result.now c.in-Err.refusal c.in-Err.ensures.refused.named c.in-Err.ensures.refused.unchanged
    (given_back c.self.inside.world c.pin_each.new.world c.as_slice.result.now c.in_ok-first.first c.in_ok-first.ensures.held c.in_ok-first.ensures.number c.release_from.new.world c.release_from.ensures.released))

pub doom_each-requires-clause-different : goal.doom_each-requires-clause-different
doom_each-requires-clause-different c = all_different c.self.inside.state c.self.inside.world c.args.key c.in_ok-keys.keys.items c.self.invariant.0 c.in_ok-keys.ensures.ordered c.as_slice-2.result.now c.as_slice-2.ensures.value

pub doom_each-requires-clause-undoomed : goal.doom_each-requires-clause-undoomed
doom_each-requires-clause-undoomed c = all_undoomed c.self.inside.state c.self.inside.world c.args.key c.in_ok-keys.keys.items c.self.invariant.0 c.in_ok-keys.ensures.ordered c.pin_each.new.world _ c.as_slice-2.result.now c.in_ok-first.ensures.held c.as_slice-2.ensures.value

pub take_out_each-requires-clause-same : goal.take_out_each-requires-clause-same
take_out_each-requires-clause-same c =
    let w = c.self.inside.world in
    let keys = c.in_ok-keys.keys.items in
    let held = c.in_ok-first.ensures.held ∙ ap (λ ks. with_callers w (w.world.callers ++ map still_on ks)) c.as_slice.ensures.value in
    let doomed = subst (λ ks. Changed doomed_if ks c.pin_each.new.world.world.slots c.doom_each.new.world.world.slots) c.as_slice-2.ensures.value c.doom_each.ensures.doomed in
    same_after c.self.inside.state w c.args.key keys c.self.invariant.0 c.in_ok-keys.ensures.ordered c.doom_in_order.new.self c.pin_each.new.world c.doom_each.new.world c.in_ok-first.first held c.in_ok-first.ensures.number
    (logs c.in_default.ensures.accepted) doomed c.doom_each.ensures.only

pub take_out_each-requires-clause-doomed : goal.take_out_each-requires-clause-doomed
take_out_each-requires-clause-doomed c =
    let w = c.self.inside.world in
    let keys = c.in_ok-keys.keys.items in
    let held = c.in_ok-first.ensures.held ∙ ap (λ ks. with_callers w (w.world.callers ++ map still_on ks)) c.as_slice.ensures.value in
    let doomed = subst (λ ks. Changed doomed_if ks c.pin_each.new.world.world.slots c.doom_each.new.world.world.slots) c.as_slice-2.ensures.value c.doom_each.ensures.doomed in
    all_doomed c.self.inside.state w c.args.key keys c.self.invariant.0 c.in_ok-keys.ensures.ordered c.doom_in_order.new.self c.pin_each.new.world c.doom_each.new.world c.in_ok-first.first held c.in_ok-first.ensures.number
    (logs c.in_default.ensures.accepted) doomed c.doom_each.ensures.only c.as_slice-3.result.now c.as_slice-3.ensures.value

pub take_out_each-requires-clause-different : goal.take_out_each-requires-clause-different
take_out_each-requires-clause-different c = all_different c.self.inside.state c.self.inside.world c.args.key c.in_ok-keys.keys.items c.self.invariant.0 c.in_ok-keys.ensures.ordered c.as_slice-3.result.now c.as_slice-3.ensures.value

pub take_out_each-requires-clause-children : goal.take_out_each-requires-clause-children
take_out_each-requires-clause-children c =
    let w = c.self.inside.world in
    let keys = c.in_ok-keys.keys.items in
    let held = c.in_ok-first.ensures.held ∙ ap (λ ks. with_callers w (w.world.callers ++ map still_on ks)) c.as_slice.ensures.value in
    let doomed = subst (λ ks. Changed doomed_if ks c.pin_each.new.world.world.slots c.doom_each.new.world.world.slots) c.as_slice-2.ensures.value c.doom_each.ensures.doomed in
    all_children_first c.self.inside.state w c.args.key keys c.self.invariant.0 c.in_ok-keys.ensures.ordered c.doom_in_order.new.self c.pin_each.new.world c.doom_each.new.world c.in_ok-first.first held c.in_ok-first.ensures.number
    (logs c.in_default.ensures.accepted) doomed c.doom_each.ensures.only c.as_slice-3.result.now c.as_slice-3.ensures.value

pub take_out_each-requires-clause-idle : goal.take_out_each-requires-clause-idle
take_out_each-requires-clause-idle c =
    let w = c.self.inside.world in
    let keys = c.in_ok-keys.keys.items in
    let held = c.in_ok-first.ensures.held ∙ ap (λ ks. with_callers w (w.world.callers ++ map still_on ks)) c.as_slice.ensures.value in
    let doomed = subst (λ ks. Changed doomed_if ks c.pin_each.new.world.world.slots c.doom_each.new.world.world.slots) c.as_slice-2.ensures.value c.doom_each.ensures.doomed in
    all_idle c.self.inside.state w c.args.key keys c.self.invariant.0 c.in_ok-keys.ensures.ordered c.doom_in_order.new.self c.pin_each.new.world c.doom_each.new.world c.in_ok-first.first held c.in_ok-first.ensures.number
    (logs c.in_default.ensures.accepted) doomed c.doom_each.ensures.only (subst (λ (n : Nodes). AllIdle n.callers) (sym c.self.view_is) c.requires.idle)

pub invariant_of-self : goal.invariant_of-self
invariant_of-self c = held_stays c.self.inside.state c.self.inside.world c.pin_each.new.world c.as_slice.result.now c.pin_each.result c.self.invariant.0 c.self.invariant.1 c.pin_each.ensures.held c.pin_each.ensures.refused

pub invariant_of-self-in-Err : goal.invariant_of-self-in-Err
invariant_of-self-in-Err c =
    let back = given_back c.self.inside.world c.pin_each.new.world c.as_slice.result.now c.in_ok-first.first c.in_ok-first.ensures.held c.in_ok-first.ensures.number c.release_from.new.world c.release_from.ensures.released in (
      subst (λ l. AreTied l c.release_from.new.world.world) (sym c.in-Err.ensures.refused.unchanged) (tied_slots c.self.inside.state c.self.inside.world.world c.release_from.new.world.world c.self.invariant.0 (ap (λ (v : BoundedWorld). v.world.slots) back)),
      subst (λ (l : TreeLog). AgreesHidden l.tree c.release_from.new.world.world) (sym c.in-Err.ensures.refused.unchanged) (told_spent c.self.inside.state.tree c.self.inside.world c.release_from.new.world c.self.invariant.1 c.as_slice.result.now (ap (λ (v : BoundedWorld). v.world.callers) back)),
    )

pub invariant_of-self-2 : goal.invariant_of-self-2
invariant_of-self-2 c =
    let w = c.self.inside.world in
    let keys = c.in_ok-keys.keys.items in
    let held = c.in_ok-first.ensures.held ∙ ap (λ ks. with_callers w (w.world.callers ++ map still_on ks)) c.as_slice.ensures.value in
    let doomed = subst (λ ks. Changed doomed_if ks c.pin_each.new.world.world.slots c.doom_each.new.world.world.slots) c.as_slice-2.ensures.value c.doom_each.ensures.doomed in (
      tied_removed c.self.inside.state w c.args.key keys c.self.invariant.0 c.in_ok-keys.ensures.ordered c.doom_in_order.new.self c.pin_each.new.world c.doom_each.new.world c.in_ok-first.first held c.in_ok-first.ensures.number
          (logs c.in_default.ensures.accepted) doomed c.doom_each.ensures.only c.take_out_each.new.state c.take_out_each.new.world
          (c.take_out_each.ensures.log ∙ ap (λ ks. logged c.doom_in_order.new.self (map Unlink ks)) c.as_slice-3.ensures.value)
          (subst (λ ks. Cleared ks c.doom_each.new.world.world c.take_out_each.new.world.world) c.as_slice-3.ensures.value c.take_out_each.ensures.cleared)
          c.take_out_each.ensures.last c.take_out_each.ensures.limit c.take_out_each.ensures.released c.take_out_each.ensures.kept c.take_out_each.ensures.same,
      told_removed c.self.inside.state w c.args.key keys c.self.invariant.0 c.in_ok-keys.ensures.ordered c.doom_in_order.new.self c.pin_each.new.world c.doom_each.new.world c.in_ok-first.first held c.in_ok-first.ensures.number
          (logs c.in_default.ensures.accepted) doomed c.doom_each.ensures.only c.take_out_each.new.state c.take_out_each.new.world
          (c.take_out_each.ensures.log ∙ ap (λ ks. logged c.doom_in_order.new.self (map Unlink ks)) c.as_slice-3.ensures.value)
          (subst (λ ks. Cleared ks c.doom_each.new.world.world c.take_out_each.new.world.world) c.as_slice-3.ensures.value c.take_out_each.ensures.cleared)
          c.take_out_each.ensures.last c.take_out_each.ensures.limit c.take_out_each.ensures.released c.self.invariant.1,
    )

pub returns-clause-room : goal.returns-clause-room
returns-clause-room c =
    subst (λ n. has_full_below n c.args.key ≡ false) c.self.view_is
    (seen_room c.self.inside.state c.self.inside.world c.args.key c.in_ok-keys.keys.items c.self.invariant.0 c.in_ok-keys.ensures.ordered
    (subst (λ ks. All (λ (k : Key). hold_count c.self.inside.world.world.callers k.slot < c.self.inside.world.limit) ks) c.as_slice.ensures.value c.in_ok-first.ensures.room))

pub returns-clause-removed : goal.returns-clause-removed
returns-clause-removed c =
    let w = c.self.inside.world in
    let keys = c.in_ok-keys.keys.items in
    let held = c.in_ok-first.ensures.held ∙ ap (λ ks. with_callers w (w.world.callers ++ map still_on ks)) c.as_slice.ensures.value in
    let doomed = subst (λ ks. Changed doomed_if ks c.pin_each.new.world.world.slots c.doom_each.new.world.world.slots) c.as_slice-2.ensures.value c.doom_each.ensures.doomed in (
      keys,
      subst (λ (n : Nodes). IsPostOrder n.log.tree c.args.key keys) c.self.view_is c.in_ok-keys.ensures.ordered,
      subst (λ (n : Nodes). nodes_of c.take_out_each.new.state c.take_out_each.new.world ≡ with_spent (record n { log = logged n.log (Doom c.args.key ∷ map Unlink keys) }) keys) c.self.view_is
          (seen_removed c.self.inside.state w c.args.key keys c.self.invariant.0 c.in_ok-keys.ensures.ordered c.doom_in_order.new.self c.pin_each.new.world c.doom_each.new.world c.in_ok-first.first held c.in_ok-first.ensures.number
          (logs c.in_default.ensures.accepted) doomed c.doom_each.ensures.only c.take_out_each.new.state c.take_out_each.new.world
          (c.take_out_each.ensures.log ∙ ap (λ ks. logged c.doom_in_order.new.self (map Unlink ks)) c.as_slice-3.ensures.value)
          (subst (λ ks. Cleared ks c.doom_each.new.world.world c.take_out_each.new.world.world) c.as_slice-3.ensures.value c.take_out_each.ensures.cleared)
          c.take_out_each.ensures.last c.take_out_each.ensures.limit c.take_out_each.ensures.released),
    )
