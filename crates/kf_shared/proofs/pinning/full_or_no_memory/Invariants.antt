use Rattle.std.proofs.Common.{◌≡◌, ◌-◌, List, length, All}
use Rattle.kf_core.specs.declared.key.Key.{Key}
use Rattle.kf_tree.specs.Tours.{HasPassed}
use Rattle.kf_words.specs.Nodes.{KeepsNodes, KeepsRooms, FoundRoom}
use Rattle.kf_shared.proofs.pinning.full_or_no_memory.Given as goal

-- the nodes that the tour has passed have room
abbrev pub invariant-below : goal.invariant-below
invariant-below l = record {
  kept : KeepsNodes l.fn.master l.master;
  rooms : KeepsRooms l.fn.master.view l.master.view;
  top : l.tour.top ≡ l.fn.top;
  passed : (keys : List Key) × HasPassed l.state.tree l.tour keys × All (λ key. FoundRoom l.master.view key.slot) keys;
}

abbrev pub decreases-below : goal.decreases-below
decreases-below l = length l.state.tree - l.tour.passed
