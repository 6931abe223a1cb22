use Rattle.std.proofs.Common.{◌<◌, List, sym, ◌∙◌, subst}
use Rattle.std.specs.Prelude.{IfSome}
use Rattle.std.specs.Arc.{arc_value}
use Rattle.kf_looks.specs.declared.lookup_table.LookupTable.{LookupTable}
use Rattle.kf_looks.specs.declared.view.Link.{Link}
use Rattle.kf_looks.specs.Lines.{bytes_in}
use Rattle.kf_looks.specs.Links.{IsOfSlot}
use Rattle.kf_live.specs.Live.{Say, Writes, without}
use Rattle.kf_live.proofs.Single.{left_slot, said_gone, was_accepted}
use Rattle.kf_live.proofs.Writers.{writes_on}
use Rattle.kf_live.specs.Told.{LiveLog, WereTold, links_by}
use Rattle.kf_live.proofs.Grown.{told_as}
use Rattle.kf_live.proofs.live_tree.LiveTree.unlink.Goals.{in-Some-1, in-None-1}
use Rattle.kf_live.proofs.live_tree.LiveTree.unlink.Goals as goal

pub publish_gone-requires : goal.publish_gone-requires
publish_gone-requires c = record {
  of_slot = λ some. writes_on (arc_value c.self.inside.looks) c.deref-then-unlinked.result.now (λ (links : List Link). Say links c.self.inside.state.tree)
      (λ (links : List Link). IfSome c.place_left-left.result (λ spot. IsOfSlot links spot.dir (bytes_in spot.name) c.args.key.slot))
      c.self.inside.writer c.take.result c.take.ensures.value c.deref-then-unlinked.ensures c.self.invariant
      (λ links says. left_slot c.self.inside.state.tree c.self.inside.state.root c.args.key c.root.ensures.kept.lawful links says c.place_left-left.result
      (c.place_left-left.ensures.left (subst (λ (l : LookupTable). 0 < l.slots) (c.deref-then-unlinked.ensures ∙ sym c.deref.ensures) some))) some;
}

pub invariant_of-self-then-unlinked-2 : goal.invariant_of-self-then-unlinked-2
invariant_of-self-then-unlinked-2 c some =
    let there : 0 < c.deref-then-unlinked.result.now.slots = subst (λ (l : LookupTable). 0 < l.slots) (sym c.deref-then-unlinked.ensures) some in
    let accepted = was_accepted c.self.inside.state c.unlink.new.self c.args.key c.in_ok-unlinked.unlinked c.if-unlinked.true c.in_ok-unlinked.ensures.accepted in
    subst (λ (l : LookupTable). Writes l (λ (links : List Link). Say links c.unlink.new.self.tree) c.publish_gone.result) c.deref-then-unlinked.ensures
    (c.publish_gone.ensures.gone c.unlink.new.self.tree
    (writes_on (arc_value c.self.inside.looks) c.deref-then-unlinked.result.now (λ (links : List Link). Say links c.self.inside.state.tree)
    (λ (links : List Link). Say (without c.place_left-left.result links) c.unlink.new.self.tree)
    c.self.inside.writer c.take.result c.take.ensures.value c.deref-then-unlinked.ensures c.self.invariant
    (λ links says. subst (Say (without c.place_left-left.result links)) (sym accepted.changed)
    (said_gone c.self.inside.state.tree c.self.inside.state.root c.args.key c.root.ensures.kept.lawful links says
    (c.in_ok-unlinked.ensures.linked ∙ c.if-unlinked.true) accepted.no_cause c.place_left-left.result
    (c.place_left-left.ensures.left (subst (λ (l : LookupTable). 0 < l.slots) (sym c.deref.ensures) some)))))) some

pub returns-then-unlinked-clause-told : goal.returns-then-unlinked-clause-told
returns-then-unlinked-clause-told c =
    let accepted = was_accepted c.self.inside.state c.unlink.new.self c.args.key c.in_ok-unlinked.unlinked c.if-unlinked.true c.in_ok-unlinked.ensures.accepted in
    let told =
    subst (λ (s : LiveLog). WereTold s.links (links_by c.publish_gone.result) c.unlink.new.self) c.self.view_is
    (told_as c.unlink.new.self c.self.inside.writer c.take.result c.publish_gone.result accepted.kept.lawful c.take.ensures.value
    (c.publish_gone.ensures.told c.unlink.new.self.tree
    (λ some. writes_on (arc_value c.self.inside.looks) c.deref-then-unlinked.result.now (λ (links : List Link). Say links c.self.inside.state.tree)
    (λ (links : List Link). Say (without c.place_left-left.result links) c.unlink.new.self.tree)
    c.self.inside.writer c.take.result c.take.ensures.value c.deref-then-unlinked.ensures c.self.invariant
    (λ links says. subst (Say (without c.place_left-left.result links)) (sym accepted.changed)
    (said_gone c.self.inside.state.tree c.self.inside.state.root c.args.key c.root.ensures.kept.lawful links says
    (c.in_ok-unlinked.ensures.linked ∙ c.if-unlinked.true) accepted.no_cause c.place_left-left.result
    (c.place_left-left.ensures.left (subst (λ (l : LookupTable). 0 < l.slots) (c.deref-then-unlinked.ensures ∙ sym c.deref.ensures) some)))) some))) in
    elim c.match-self-publish_gone.branch [
      | in-Some-1 w ↦ subst (λ (now : LiveLog). WereTold c.args.self.now.links now.links now.log) (sym w.self-is) told
      | in-None-1 w ↦ subst (λ (now : LiveLog). WereTold c.args.self.now.links now.links now.log) (sym w.self-is) told
    ]
