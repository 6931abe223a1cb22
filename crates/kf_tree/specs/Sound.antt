-- What holds of a state at all times.
use Rattle.std.specs.Prelude.{◌≡◌, ℕ, ◌+◌, ◌≤◌, length, None, Some}
use Rattle.kf_core.specs.Limits.{most_slots}
use Rattle.kf_core.specs.declared.key.Key.{Key}
use Rattle.kf_tree.specs.Causes.{hide_cause}
use Rattle.kf_tree.specs.TreeLogs.{TreeLog, IsKept}
use Rattle.kf_tree.specs.Subtrees.{owed_count}

-- there is no cause against hiding the key, and there is room for the hiding and for the show after it
pub record IsReady (s : TreeLog) (capacity owed : ℕ) (key : Key) : Type 0 where
  pub no_cause : hide_cause s.tree key ≡ None
  pub room : length s.commands + 2 + owed ≤ capacity

-- what holds of a state with a command list of this capacity, if this many later commands are owed
pub record IsSound (s : TreeLog) (capacity owed : ℕ) : Type 0 where
  pub kept : IsKept s
  pub few : length s.tree ≤ most_slots
  pub counted : owed ≡ owed_count s.tree
  pub room : length s.commands + owed ≤ capacity
  pub ready : (key : Key) → s.ready ≡ Some key → IsReady s capacity owed key
