-- When the Master's nodes are those of the tree, and what a change of only marks leaves as it was in the
-- Master.
use Rattle.std.specs.Prelude.{◌≡◌, List, length, slice_get, Some}
use Rattle.kf_core.specs.declared.key.Key.{Key}
use Rattle.kf_core.specs.declared.key.Node.{Node}
use Rattle.kf_core.specs.declared.records.Record.{Record}
use Rattle.kf_core.specs.Tree.{Tree, record_at}
use Rattle.kf_words.specs.Nodes.{MasterState}
use Rattle.kf_words.specs.Notes.{history_of}

-- the node of each linked record is the one that was born last in its slot
abbrev pub HasNodes : List Node → Tree → Type 0
HasNodes nodes tree =
    (key : Key) (r : Record) → record_at tree key ≡ Some r → slice_get nodes key.slot ≡ Some r.node

-- the Master has the same table, the same nodes and as many slots as before, and no note was added
pub record OnlyMarks (old new : MasterState) : Type 0 where
  pub table : new.table ≡ old.table
  pub nodes : new.nodes ≡ old.nodes
  pub slots : length new.view.slots ≡ length old.view.slots
  pub history : history_of new.seen ≡ history_of old.seen
