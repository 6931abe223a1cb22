use Rattle.std.proofs.Common.{subst}
use Rattle.kf_tree.specs.TreeLogs.{TreeLog}
use Rattle.kf_uevents.specs.Moves.{IsToMove}
use Rattle.kf_uevents.proofs.Moves.{told_move}
use Rattle.kf_uevents.proofs.moving.rename_and_tell.Goals as goal

pub returns-clause-told : goal.returns-clause-told
returns-clause-told g c away =
    let event = c.in_ok-event.event in (
      event,
      told_move c.args.editor.now.state c.rename.new.self.state c.args.key c.args.dir c.args.name.now event _ c.state-state.ensures.whole.kept.lawful c.in_ok-rename.ensures.no_cause away
          (c.in_ok-rename.ensures.accepted away)
          (subst (λ (s : TreeLog). IsToMove s.tree s.root c.args.key c.args.dir c.args.name.now event) c.state-state.ensures.same c.in_ok-event.ensures.event),
      c.push.ensures.told,
    )
