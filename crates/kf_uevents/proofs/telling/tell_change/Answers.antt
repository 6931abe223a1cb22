use Rattle.std.proofs.Common.{subst}
use Rattle.kf_tree.specs.TreeLogs.{TreeLog}
use Rattle.kf_uevents.specs.declared.uevent.Action.TheVariants.{Change}
use Rattle.kf_uevents.specs.News.{IsEventOf}
use Rattle.kf_uevents.proofs.telling.tell_change.Goals as goal

pub returns-clause-told : goal.returns-clause-told
returns-clause-told g c = (
  c.in_ok-event.event,
  c.in_ok-event.ensures.keyed,
  subst (λ (s : TreeLog). IsEventOf s.tree s.root Change c.in_ok-event.event) c.state.ensures.same c.in_ok-event.ensures.event,
  c.push.ensures.told,
)
