use Rattle.std.proofs.Common.{sym, subst, List, [], ◌∷◌}
use Rattle.std.specs.Arc.{arc_value}
use Rattle.kf_looks.specs.declared.view.Link.{Link}
use Rattle.kf_live.specs.Live.{SayBut, Say}
use Rattle.kf_live.proofs.Frames.{said_doomed}
use Rattle.kf_live.proofs.Writers.{writes_on}
use Rattle.kf_live.specs.Told.{LiveLog, WereTold, links_by}
use Rattle.kf_live.proofs.Grown.{told_as}
use Rattle.kf_live.proofs.live_tree.LiveTree.doom_in_order.Goals as goal

pub publish_one-requires : goal.publish_one-requires
publish_one-requires c = record {
  says = writes_on (arc_value c.self.inside.looks) c.deref.result.now (λ (links : List Link). Say links c.self.inside.state.tree) (λ (links : List Link). SayBut (c.args.key ∷ []) links c.doom_in_order.new.self.tree)
      c.self.inside.writer c.take.result c.take.ensures.value c.deref.ensures c.self.invariant
      (λ links says. subst (SayBut (c.args.key ∷ []) links) (sym c.in_ok-doom_in_order.ensures.accepted.changed)
      (said_doomed c.self.inside.state.tree c.self.inside.state.root c.args.key links c.root.ensures.kept.lawful says));
}

pub returns-clause-told : goal.returns-clause-told
returns-clause-told c = subst (λ (s : LiveLog). WereTold s.links (links_by c.publish_one.result) c.doom_in_order.new.self) c.self.view_is
    (told_as c.doom_in_order.new.self c.self.inside.writer c.take.result c.publish_one.result c.in_ok-doom_in_order.ensures.accepted.kept.lawful c.take.ensures.value c.publish_one.ensures.told)
