use Rattle.std.proofs.Common.{subst, List}
use Rattle.kf_core.specs.declared.key.Key.{Key}
use Rattle.kf_core.specs.PostOrder.{IsPostOrder}
use Rattle.kf_tree.specs.TreeLogs.{TreeLog}
use Rattle.kf_uevents.specs.declared.uevent.Action.TheVariants.{Remove}
use Rattle.kf_uevents.specs.News.{AreNews}
use Rattle.kf_uevents.proofs.telling.begin_removal_and_tell.Goals as goal

pub returns-clause-told : goal.returns-clause-told
returns-clause-told g c =
    let keys = c.in_ok-keys.keys.items in
    let events = c.in_ok-events.events.items in (
      keys,
      subst (λ (s : TreeLog). IsPostOrder s.tree c.args.key keys) c.state-state.ensures.same c.in_ok-keys.ensures.ordered,
      (
        events,
        subst (λ (s : TreeLog). AreNews s.tree s.root Remove keys events) c.state-state.ensures.same
            (subst (λ (ks : List Key). AreNews c.state-state.result.now.tree c.state-state.result.now.root Remove ks events) c.as_slice.ensures.value c.in_ok-events.ensures.news),
        c.push_all.ensures.told,
      ),
    )
