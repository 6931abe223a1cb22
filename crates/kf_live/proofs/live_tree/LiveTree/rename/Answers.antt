use Rattle.std.proofs.Common.{◌<◌, List, sym, ◌∙◌, subst}
use Rattle.std.specs.Arc.{arc_value}
use Rattle.kf_looks.specs.declared.lookup_table.LookupTable.{LookupTable}
use Rattle.kf_looks.specs.declared.view.Link.{Link}
use Rattle.kf_live.specs.Live.{Say, IsMove}
use Rattle.kf_live.proofs.Single.{moved_or_stays, moved_or_stays_doomed}
use Rattle.kf_live.proofs.Writers.{writes_on}
use Rattle.kf_live.specs.Told.{LiveLog, WereTold, links_by}
use Rattle.kf_live.proofs.Grown.{told_as}
use Rattle.kf_live.proofs.Grown.{moved_lawful}
use Rattle.kf_live.proofs.live_tree.LiveTree.rename.Goals as goal

pub publish_move-requires : goal.publish_move-requires
publish_move-requires c = record {
  says = λ some. writes_on (arc_value c.self.inside.looks) c.deref-2.result.now (λ (links : List Link). Say links c.self.inside.state.tree) (λ (links : List Link). IsMove links c.args.key c.place_before-was.result c.rename.new.self.tree)
      c.self.inside.writer c.take.result c.take.ensures.value c.deref-2.ensures c.self.invariant
      (λ links says. record {
        before = c.self.inside.state.tree;
        root = c.self.inside.state.root;
        lawful = c.root.ensures.kept.lawful;
        says = says;
        stood = c.place_before-was.ensures.stood (subst (λ (l : LookupTable). 0 < l.slots) (c.deref-2.ensures ∙ sym c.deref.ensures) some);
        same = moved_or_stays c.self.inside.state c.rename.new.self c.args.key c.args.dir c.args.name.now _ _ c.in_ok-rename.ensures.stays c.in_ok-rename.ensures.accepted;
        stays_doomed = moved_or_stays_doomed c.self.inside.state c.rename.new.self c.args.key c.args.dir c.args.name.now _ _ c.in_ok-rename.ensures.stays c.in_ok-rename.ensures.accepted;
      }) some;
}

pub returns-clause-told : goal.returns-clause-told
returns-clause-told c = subst (λ (s : LiveLog). WereTold s.links (links_by c.publish_move.result) c.rename.new.self) c.self.view_is
    (told_as c.rename.new.self c.self.inside.writer c.take.result c.publish_move.result (moved_lawful c.self.inside.state c.rename.new.self _ _ _ c.root.ensures.kept.lawful c.in_ok-rename.ensures.stays c.in_ok-rename.ensures.accepted) c.take.ensures.value c.publish_move.ensures.told)
