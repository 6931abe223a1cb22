use Rattle.std.proofs.Common.{true, rules, refl, ap}
use Rattle.kf_words.specs.Callers.{seat_view, sight_of}
use Rattle.kf_words.specs.TableSteps.{looks_hidden}
use Rattle.kf_words.proofs.Waits.{one_more, since}
use Rattle.kf_words.proofs.hiding.wait_hidden.Goals.{in-None, in-Some+then-is_unused}
use Rattle.kf_words.proofs.hiding.wait_hidden.Goals as goal

pub loop-preserved : goal.loop-preserved
loop-preserved g c = record {
  same = search rules;
  hiding = search rules;
  waited = one_more looks_hidden (λ _. true) _ _ _ _ _ c.loop.invariant.waited c.load_hidden-seen.ensures.made refl c.park.ensures.slept;
}

pub returns-clause-waited : goal.returns-clause-waited
returns-clause-waited g c = elim c.match-next.branch [
  | in-None w ↦ search rules
  | in-Some+then-is_unused w ↦
      since looks_hidden (λ _. true) _ _ _ _ _ (ap seat_view c.hiding.view_is) (ap sight_of w.seat-is)
      c.loop.invariant.waited w.load_hidden-seen.ensures.made
]

pub returns-clause-found : goal.returns-clause-found
returns-clause-found g c = elim c.match-next.branch [
  | in-None w ↦ search rules
  | in-Some+then-is_unused w ↦ search rules
]
