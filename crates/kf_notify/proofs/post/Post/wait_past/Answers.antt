use Rattle.std.proofs.Common.{rules, refl}
use Rattle.kf_notify.proofs.Waits.{one_more, at_last}
use Rattle.kf_notify.proofs.post.Post.wait_past.Goals as goal

pub returns-then-found-seen-clause-loads : goal.returns-then-found-seen-clause-loads
returns-then-found-seen-clause-loads g c = at_last _ _ _ _ _ _ _ _ c.loop.invariant.same.slot refl c.loop.invariant.loads c.now-found.ensures.next

pub loop-preserved : goal.loop-preserved
loop-preserved g c = record {
  same = search rules;
  seen = search rules;
  made = search rules;
  steps = search rules;
  loads = one_more _ _ _ _ _ _ _ c.loop.invariant.same.slot (search rules) c.loop.invariant.loads c.now-found.ensures.next;
}
