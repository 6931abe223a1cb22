use Rattle.std.proofs.Common.{refl, sym, subst, List, [], ◌∷◌}
use Rattle.std.specs.Arc.{arc_value}
use Rattle.kf_looks.specs.declared.view.Link.{Link}
use Rattle.kf_live.specs.Live.{SayBut, Say}
use Rattle.kf_live.proofs.Writers.{writes_on}
use Rattle.std.proofs.Common.{◌≡◌}
use Rattle.std.specs.Prelude.{slice_get, Some, None}
use Rattle.kf_live.proofs.Writers.{writes_then}
use Rattle.kf_live.proofs.Single.{said_born, said_unborn}
use Rattle.kf_live.specs.Told.{LiveLog, WereTold, links_by}
use Rattle.kf_live.proofs.Grown.{told_as}
use Rattle.kf_live.specs.Told.{LeadAs}
use Rattle.kf_live.proofs.Grown.{grew_none}
use Rattle.kf_live.proofs.live_tree.LiveTree.create_under.Goals.{in-Some-1, in-None-1}
use Rattle.kf_live.proofs.live_tree.LiveTree.create_under.Goals as goal

pub publish_one-requires : goal.publish_one-requires
publish_one-requires c = record {
  says = writes_on (arc_value c.self.inside.looks) c.deref.result.now (λ (links : List Link). Say links c.self.inside.state.tree) (λ (links : List Link). SayBut (c.args.key ∷ []) links c.create_under.new.self.tree)
      c.self.inside.writer c.take.result c.take.ensures.value c.deref.ensures c.self.invariant
      (λ links says. subst (SayBut (c.args.key ∷ []) links) (sym c.in_ok-create_under.ensures.accepted.changed)
      (said_born c.self.inside.state.tree c.self.inside.state.root c.args.key c.args.parent c.args.name.now c.args.node links c.root.ensures.kept.lawful
      (subst (λ (s : LiveLog). slice_get s.log.tree c.args.key.slot ≡ Some None) (sym c.self.view_is) c.requires.vacant) c.args.live says));
}

pub invariant_of-self-else-live : goal.invariant_of-self-else-live
invariant_of-self-else-live c = writes_then (arc_value c.self.inside.looks) (λ (links : List Link). Say links c.self.inside.state.tree) (λ (links : List Link). Say links c.create_under.new.self.tree) c.self.inside.writer c.self.invariant
    (λ links says. subst (Say links) (sym c.in_ok-create_under.ensures.accepted.changed)
    (said_unborn c.self.inside.state.tree c.self.inside.state.root c.args.key c.args.parent c.args.name.now c.args.node links c.root.ensures.kept.lawful
    (subst (λ (s : LiveLog). slice_get s.log.tree c.args.key.slot ≡ Some None) (sym c.self.view_is) c.requires.vacant) c.args.live c.if-live.false says))

pub returns-then-live-clause-told : goal.returns-then-live-clause-told
returns-then-live-clause-told c =
    let told =
    subst (λ (s : LiveLog). WereTold s.links (links_by c.publish_one.result) c.create_under.new.self) c.self.view_is
    (told_as c.create_under.new.self c.self.inside.writer c.take.result c.publish_one.result c.in_ok-create_under.ensures.accepted.kept.lawful c.take.ensures.value c.publish_one.ensures.told) in
    elim c.match-self-publish_one.branch [
      | in-Some-1 w ↦ subst (λ (now : LiveLog). WereTold c.args.self.now.links now.links now.log) (sym w.self-is) told
      | in-None-1 w ↦ subst (λ (now : LiveLog). WereTold c.args.self.now.links now.links now.log) (sym w.self-is) told
    ]

pub returns-else-live-clause-told : goal.returns-else-live-clause-told
returns-else-live-clause-told c = subst (λ (s : LiveLog). WereTold s.links (links_by c.self.inside.writer) c.create_under.new.self) c.self.view_is
    (grew_none (LeadAs c.create_under.new.self.tree c.create_under.new.self.root) (links_by c.self.inside.writer) (links_by c.self.inside.writer) refl)
