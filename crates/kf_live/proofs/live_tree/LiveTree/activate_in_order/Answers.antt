use Rattle.std.proofs.Common.{sym, subst, List}
use Rattle.std.specs.Arc.{arc_value}
use Rattle.kf_core.specs.PostOrder.{IsPostOrder}
use Rattle.kf_looks.specs.declared.view.Link.{Link}
use Rattle.kf_live.specs.Live.{AreSound, SayBut, Say}
use Rattle.kf_live.proofs.Frames.{said_risen, sound_risen}
use Rattle.kf_live.proofs.Writers.{writes_on}
use Rattle.kf_live.specs.Told.{LiveLog, WereTold, links_by}
use Rattle.kf_live.proofs.Grown.{told_as}
use Rattle.kf_live.proofs.live_tree.LiveTree.activate_in_order.Goals as goal

pub publish-requires : goal.publish-requires
publish-requires c = record {
  says = writes_on (arc_value c.self.inside.looks) c.deref.result.now (λ (links : List Link). Say links c.self.inside.state.tree) (λ (links : List Link). SayBut c.args.order.now links c.activate_in_order.new.self.tree)
      c.self.inside.writer c.take.result c.take.ensures.value c.deref.ensures c.self.invariant
      (λ links says. subst (SayBut c.args.order.now links) (sym c.in_ok-activate_in_order.ensures.accepted.changed)
      (said_risen c.self.inside.state.tree c.args.key c.args.order.now links
      (subst (λ (s : LiveLog). IsPostOrder s.log.tree c.args.key c.args.order.now) (sym c.self.view_is) c.requires.in_order) says));
  sound = writes_on (arc_value c.self.inside.looks) c.deref.result.now (λ (links : List Link). Say links c.self.inside.state.tree) (λ (links : List Link). AreSound links c.activate_in_order.new.self.tree)
      c.self.inside.writer c.take.result c.take.ensures.value c.deref.ensures c.self.invariant
      (λ links says. subst (AreSound links) (sym c.in_ok-activate_in_order.ensures.accepted.changed)
      (sound_risen c.self.inside.state.tree c.args.key c.args.order.now links says));
}

pub returns-clause-told : goal.returns-clause-told
returns-clause-told c = subst (λ (s : LiveLog). WereTold s.links (links_by c.publish.result) c.activate_in_order.new.self) c.self.view_is
    (told_as c.activate_in_order.new.self c.self.inside.writer c.take.result c.publish.result c.in_ok-activate_in_order.ensures.accepted.kept.lawful c.take.ensures.value c.publish.ensures.told)
