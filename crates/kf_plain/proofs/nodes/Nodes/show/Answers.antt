use Rattle.std.proofs.lemmas.Bool.{MatchBool-at_true}
use Rattle.kf_plain.proofs.HideAndShow.{may_show, shows_now, may_end_show, tied_shown, told_shown, seen_shown}
use Rattle.kf_plain.proofs.Ties.{logs}
use Rattle.kf_plain.proofs.nodes.Nodes.show.Goals as goal

pub show-requires : goal.show-requires
show-requires c = record { may = may_show c.args.self.now c.self.inside.state c.self.inside.state c.self.inside.world c.self.inside.world c.args.token.hold c.args.token.key c.self.view_is c.self.invariant.0 c.self.invariant.1 c.requires.hides }

pub release-requires : goal.release-requires
release-requires c = record { may = may_end_show c.args.self.now c.self.inside.state c.show-shown.new.self c.self.inside.world c.show.new.self c.args.token.hold c.args.token.key c.self.view_is c.self.invariant.0 c.self.invariant.1 c.requires.hides c.show.ensures.step }

pub invariant_of-self : goal.invariant_of-self
invariant_of-self c =
    let log = logs (MatchBool-at_true _ _ (shows_now c.args.self.now c.self.inside.state c.show-shown.new.self c.self.inside.world c.show.new.self c.args.token.hold c.args.token.key c.self.view_is c.self.invariant.0 c.self.invariant.1 c.requires.hides c.requires.linked c.show-shown.result c.show-shown.ensures.told) c.show-shown.ensures.accepted) in (
      tied_shown c.args.self.now c.self.inside.state c.show-shown.new.self c.self.inside.world c.show.new.self c.args.token.hold c.args.token.key c.self.view_is c.self.invariant.0 c.self.invariant.1 c.requires.hides c.show.ensures.step c.release.new.self c.release.ensures.step log,
      told_shown c.args.self.now c.self.inside.state c.show-shown.new.self c.self.inside.world c.show.new.self c.args.token.hold c.args.token.key c.self.view_is c.self.invariant.0 c.self.invariant.1 c.requires.hides c.show.ensures.step c.release.new.self c.release.ensures.step log c.room-has_room.ensures.safe,
    )

pub returns : goal.returns
returns c = record { shown = seen_shown c.args.self.now c.self.inside.state c.show-shown.new.self c.self.inside.world c.show.new.self c.args.token.hold c.args.token.key c.self.view_is c.self.invariant.0 c.self.invariant.1 c.requires.hides c.show.ensures.step c.release.new.self c.release.ensures.step (logs (MatchBool-at_true _ _ (shows_now c.args.self.now c.self.inside.state c.show-shown.new.self c.self.inside.world c.show.new.self c.args.token.hold c.args.token.key c.self.view_is c.self.invariant.0 c.self.invariant.1 c.requires.hides c.requires.linked c.show-shown.result c.show-shown.ensures.told) c.show-shown.ensures.accepted)) }
