use Rattle.std.proofs.Common.{refl, ap, sym, ◌∙◌, subst, [], ◌∷◌}
use Rattle.std.proofs.lemmas.Bool.{OnTrue_at}
use Rattle.kf_core.specs.Agrees.{AgreesHidden}
use Rattle.kf_tree.specs.TreeLogs.{TreeLog}
use Rattle.kf_plain.specs.Nodes.{AreTied, nodes_of}
use Rattle.kf_plain.proofs.BoardVisits.{opened_may_release, tied_given_back, told_given_back, given_back_seen, room_seen}
use Rattle.kf_plain.proofs.HideAndShow.{idle_visit, logs_readied, still_waits, hides_now, may_look_hidden, tied_hidden, told_hidden, seen_hidden, none_hides_there, why_not_hidden}
use Rattle.kf_plain.proofs.nodes.Nodes.hide.Goals as goal

pub release-requires : goal.release-requires
release-requires c = record { may = opened_may_release c.args.self.now c.self.inside.state c.self.inside.world c.pin.new.self c.pin.new.self c.in_ok-id.id c.args.key c.self.view_is c.self.invariant.0 c.in_ok-id.ensures.step (idle_visit c.pin.new.self c.in_ok-id.id c.args.key) c.in_ok-id.id refl }

pub invariant_of-self-in-Err : goal.invariant_of-self-in-Err
invariant_of-self-in-Err c = (
  subst (λ l. AreTied l c.release.new.self.world) (sym c.in-Err.ensures.refused.unchanged) (tied_given_back c.args.self.now c.self.inside.state c.self.inside.world c.pin.new.self c.pin.new.self c.in_ok-id.id c.args.key c.self.view_is c.self.invariant.0 c.in_ok-id.ensures.step (idle_visit c.pin.new.self c.in_ok-id.id c.args.key) c.release.new.self c.in_ok-id.id refl c.release.ensures.step),
  subst (λ (l : TreeLog). AgreesHidden l.tree c.release.new.self.world) (sym c.in-Err.ensures.refused.unchanged) (told_given_back c.args.self.now c.self.inside.state c.self.inside.world c.pin.new.self c.pin.new.self c.in_ok-id.id c.args.key c.self.view_is c.self.invariant.0 c.in_ok-id.ensures.step (idle_visit c.pin.new.self c.in_ok-id.id c.args.key) c.release.new.self c.in_ok-id.id refl c.release.ensures.step c.self.invariant.1),
)

pub returns-in-Err-clause-refused : goal.returns-in-Err-clause-refused
returns-in-Err-clause-refused c = (
  why_not_hidden c.args.self.now c.self.inside.state c.self.inside.world c.args.key c.in-Err.refusal c.self.view_is (room_seen c.args.self.now c.self.inside.state c.self.inside.world c.args.key c.self.view_is c.in_ok-id.ensures.room) c.in-Err.ensures.refused.named,
  (c.args.key ∷ [], ap (λ l. nodes_of l c.release.new.self) c.in-Err.ensures.refused.unchanged ∙ given_back_seen c.args.self.now c.self.inside.state c.self.inside.world c.pin.new.self c.pin.new.self c.in_ok-id.id c.args.key c.self.view_is c.self.invariant.0 c.in_ok-id.ensures.step (idle_visit c.pin.new.self c.in_ok-id.id c.args.key) c.release.new.self c.in_ok-id.id refl c.release.ensures.step),
)

pub hide-hiding-requires : goal.hide-hiding-requires
hide-hiding-requires c = record { waits = still_waits c.args.self.now c.self.inside.state c.self.inside.world c.pin.new.self c.in_ok-id.id c.args.key c.self.view_is c.self.invariant.0 c.self.invariant.1 c.requires.linked c.in_ok-id.ensures.step c.in_default.ensures.readied.no_cause }

pub invariant_of-self-2 : goal.invariant_of-self-2
invariant_of-self-2 c =
    let hide = OnTrue_at (hides_now c.args.self.now c.self.inside.state c.self.inside.world c.pin.new.self c.in_ok-id.id c.args.key c.self.view_is c.self.invariant.0 c.self.invariant.1 c.requires.linked c.in_ok-id.ensures.step c.in_default.ensures.readied.no_cause c.hide-hiding.result c.hide-hiding.ensures.told) c.hide-hiding.ensures.step in
    let look = OnTrue_at (c.look_hidden-hidden.ensures.told.1 (may_look_hidden c.args.self.now c.self.inside.state c.self.inside.world c.pin.new.self c.in_ok-id.id c.args.key c.self.view_is c.self.invariant.0 c.self.invariant.1 c.requires.linked c.in_ok-id.ensures.step c.in_default.ensures.readied.no_cause c.hide-hiding.new.self hide c.requires.idle)) c.look_hidden-hidden.ensures.step in
    let log = logs_readied c.in_default.ensures.readied c.hide.ensures.accepted in (
      tied_hidden c.args.self.now c.self.inside.state c.self.inside.world c.pin.new.self c.in_ok-id.id c.args.key c.self.view_is c.self.invariant.0 c.self.invariant.1 c.requires.linked c.in_ok-id.ensures.step c.in_default.ensures.readied.no_cause c.hide-hiding.new.self hide c.look_hidden-hidden.new.self look c.hide.new.self log,
      told_hidden c.args.self.now c.self.inside.state c.self.inside.world c.pin.new.self c.in_ok-id.id c.args.key c.self.view_is c.self.invariant.0 c.self.invariant.1 c.requires.linked c.in_ok-id.ensures.step c.in_default.ensures.readied.no_cause c.hide-hiding.new.self hide c.look_hidden-hidden.new.self look c.hide.new.self log,
    )

pub returns-clause-first : goal.returns-clause-first
returns-clause-first c = none_hides_there c.args.self.now c.self.inside.state c.self.inside.world c.pin.new.self c.in_ok-id.id c.args.key c.self.view_is c.self.invariant.0 c.self.invariant.1 c.requires.linked c.in_ok-id.ensures.step c.in_default.ensures.readied.no_cause c.room-has_room.ensures.safe

pub returns-clause-hidden : goal.returns-clause-hidden
returns-clause-hidden c =
    let hide = OnTrue_at (hides_now c.args.self.now c.self.inside.state c.self.inside.world c.pin.new.self c.in_ok-id.id c.args.key c.self.view_is c.self.invariant.0 c.self.invariant.1 c.requires.linked c.in_ok-id.ensures.step c.in_default.ensures.readied.no_cause c.hide-hiding.result c.hide-hiding.ensures.told) c.hide-hiding.ensures.step in
    let look = OnTrue_at (c.look_hidden-hidden.ensures.told.1 (may_look_hidden c.args.self.now c.self.inside.state c.self.inside.world c.pin.new.self c.in_ok-id.id c.args.key c.self.view_is c.self.invariant.0 c.self.invariant.1 c.requires.linked c.in_ok-id.ensures.step c.in_default.ensures.readied.no_cause c.hide-hiding.new.self hide c.requires.idle)) c.look_hidden-hidden.ensures.step in
    seen_hidden c.args.self.now c.self.inside.state c.self.inside.world c.pin.new.self c.in_ok-id.id c.args.key c.self.view_is c.self.invariant.0 c.self.invariant.1 c.requires.linked c.in_ok-id.ensures.step c.in_default.ensures.readied.no_cause c.hide-hiding.new.self hide c.look_hidden-hidden.new.self look c.hide.new.self (logs_readied c.in_default.ensures.readied c.hide.ensures.accepted)
