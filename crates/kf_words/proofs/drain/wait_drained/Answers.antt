use Rattle.std.proofs.Common.{rules, ap}
use Rattle.kf_words.specs.Callers.{seat_view, sight_of, view_of}
use Rattle.kf_words.specs.TableSteps.{looks}
use Rattle.kf_words.specs.Layout.{last_user_wakes}
use Rattle.kf_words.proofs.Waits.{one_more, since, found_by_look}
use Rattle.kf_words.proofs.drain.wait_drained.Goals.{in-None, in-Some+then-is_drained}
use Rattle.kf_words.proofs.drain.wait_drained.Goals as goal

pub loop-preserved : goal.loop-preserved
loop-preserved g c = record {
  same = search rules;
  waits = search rules;
  untried = search rules;
  waited = one_more looks last_user_wakes c.load-seen.result _ _ _ _ c.loop.invariant.waited c.load-seen.ensures.made (found_by_look c.load-seen.result (view_of c.loop.seat) (view_of c.load-seen.new.self) c.load-seen.ensures.view) c.rest.ensures.rested;
}

pub returns-clause-waited : goal.returns-clause-waited
returns-clause-waited g c = elim c.match-next.branch [
  | in-None w ↦ search rules
  | in-Some+then-is_drained w ↦
      since looks last_user_wakes _ _ _ _ _ (ap seat_view c.hold.view_is) (ap sight_of w.seat-is)
      c.loop.invariant.waited w.load-seen.ensures.made
]

pub returns-clause-found : goal.returns-clause-found
returns-clause-found g c = elim c.match-next.branch [
  | in-None w ↦ search rules
  | in-Some+then-is_drained w ↦ search rules
]
