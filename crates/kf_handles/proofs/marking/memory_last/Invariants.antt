use Rattle.std.proofs.Common.{◌≡◌, ◌-◌, List, length}
use Rattle.kf_core.specs.declared.key.Key.{Key}
use Rattle.kf_tree.specs.Tours.{HasPassed}
use Rattle.kf_shared.specs.Locked.{Unchanged}
use Rattle.kf_handles.proofs.marking.memory_last.Given as goal

-- holds may be taken and released, but the tree that the tour goes through stays the same
abbrev pub invariant-below : goal.invariant-below
invariant-below g l = record {
  same : Unchanged l.fn.locked l.locked;
  top : l.tour.top ≡ l.fn.top;
  passed : (keys : List Key) × HasPassed l.locked.state.tree l.tour keys;
}

abbrev pub decreases-below : goal.decreases-below
decreases-below g l = length l.locked.state.tree - l.tour.passed
