-- Changes of the record in one slot.
use Rattle.std.specs.Prelude.{ℕ, Bool, false, not, Option, None, Some, slice_get, slice_set, if◌then◌else◌}
use Rattle.std.specs.Option.{option_map, option_and_then}
use Rattle.kf_core.specs.declared.records.Record.{Record}
use Rattle.kf_core.specs.Tree.{Tree}
use Rattle.kf_core.specs.Commands.{activated_record}

-- the tree with the record of one slot changed
abbrev pub with_changed_slot : (Record → Record) → Tree → ℕ → Tree
with_changed_slot f t slot = slice_set t slot (option_and_then (option_map f) (slice_get t slot))

-- the record as an activation leaves it; a doomed one stays as it is
abbrev pub activated_unless_doomed : Record → Record
activated_unless_doomed r = if r.marks.doomed then r else activated_record r

-- whether the slot has a record that is not doomed
abbrev pub is_undoomed : Option (Option Record) → Bool
is_undoomed None = false
is_undoomed (Some None) = false
is_undoomed (Some (Some r)) = not r.marks.doomed
