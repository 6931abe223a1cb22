use Rattle.std.proofs.Common.{take}
use Rattle.kf_uevents.specs.News.{AreNews}
use Rattle.kf_uevents.proofs.news.events_of.Given as goal

abbrev pub invariant-loop-key : goal.invariant-loop-key
invariant-loop-key l = AreNews l.state.tree l.state.root l.action (take l.key-index l.keys) l.events.items
