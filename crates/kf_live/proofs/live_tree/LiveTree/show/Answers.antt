use Rattle.std.proofs.Common.{false, sym, subst, List, [], ◌∷◌}
use Rattle.std.specs.Arc.{arc_value}
use Rattle.kf_looks.specs.declared.view.Link.{Link}
use Rattle.kf_live.specs.Live.{SayBut, Say}
use Rattle.kf_live.proofs.Writers.{writes_on}
use Rattle.kf_live.proofs.Frames.{said_hidden}
use Rattle.kf_live.specs.Told.{LiveLog, WereTold, links_by}
use Rattle.kf_live.proofs.Grown.{told_as}
use Rattle.kf_live.proofs.live_tree.LiveTree.show.Goals.{in-Some-1, in-None-1}
use Rattle.kf_live.proofs.live_tree.LiveTree.show.Goals as goal

pub publish_one-requires : goal.publish_one-requires
publish_one-requires c = record {
  says = writes_on (arc_value c.self.inside.looks) c.deref.result.now (λ (links : List Link). Say links c.self.inside.state.tree) (λ (links : List Link). SayBut (c.args.key ∷ []) links c.show-shown.new.self.tree)
      c.self.inside.writer c.take.result c.take.ensures.value c.deref.ensures c.self.invariant
      (λ links says. subst (SayBut (c.args.key ∷ []) links) (sym c.if-shown.ensures.accepted.changed)
      (said_hidden c.self.inside.state.tree c.args.key false links says));
}

pub returns-then-shown-clause-told : goal.returns-then-shown-clause-told
returns-then-shown-clause-told c =
    let told =
    subst (λ (s : LiveLog). WereTold s.links (links_by c.publish_one.result) c.show-shown.new.self) c.self.view_is
    (told_as c.show-shown.new.self c.self.inside.writer c.take.result c.publish_one.result c.if-shown.ensures.accepted.kept.lawful c.take.ensures.value c.publish_one.ensures.told) in
    elim c.match-self-publish_one.branch [
      | in-Some-1 w ↦ subst (λ (now : LiveLog). WereTold c.args.self.now.links now.links now.log) (sym w.self-is) told
      | in-None-1 w ↦ subst (λ (now : LiveLog). WereTold c.args.self.now.links now.links now.log) (sym w.self-is) told
    ]
