-- A tour of a subtree in post-order, from node to node.
use Rattle.std.specs.Prelude.{◌≡◌, ◌↔◌, List, length, IsTrue, Contains, AllPairs}
use Rattle.kf_core.specs.declared.key.Key.{Key}
use Rattle.kf_core.specs.Tree.{Tree, is_linked, in_subtree}
use Rattle.kf_core.specs.PostOrder.{StandsBefore}
use Rattle.kf_tree.specs.declared.tour.Tour.{Tour}

-- the current key is in the subtree; exactly these linked keys of the subtree come before it in post-order,
-- and they are in that order
pub record IsUpTo (t : Tree) (top current : Key) (keys : List Key) : Type 0 where
  pub linked : IsTrue (is_linked t current)
  pub below : IsTrue (in_subtree t top current)
  pub members : (key : Key) → Contains keys key
      ↔ (IsTrue (is_linked t key) × IsTrue (in_subtree t top key) × StandsBefore t key current)
  pub ordered : AllPairs (StandsBefore t) keys

-- the tour has passed these keys: all that come before its node
pub record HasPassed (t : Tree) (tour : Tour) (keys : List Key) : Type 0 where
  pub up_to : IsUpTo t tour.top tour.key keys
  pub counted : tour.passed ≡ length keys
