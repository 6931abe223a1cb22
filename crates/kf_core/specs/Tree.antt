-- Trees of records, and the ways up in them.
use Rattle.std.specs.Prelude.{◌≡◌, ℕ, zero, suc, Bool, true, false, List, length, slice_get, Option, None, Some, is_some, if◌then◌else◌}
use Rattle.std.specs.Option.{option_map, option_and_then}
use Rattle.kf_core.specs.declared.key.Key.{Key}
use Rattle.kf_core.specs.declared.key.Node.{Node}
use Rattle.kf_core.specs.declared.key.Node.TheVariants.{Dir, File, Link}
use Rattle.kf_core.specs.declared.slot.NodeFlags.{NodeFlags}
use Rattle.kf_core.specs.declared.records.Record.{Record}
use Rattle.kf_core.specs.Keys.{same_key}

-- by slot, the record of the linked node
abbrev pub Tree : Type 0
Tree = List (Option Record)

-- the record of a slot, or None if it is not the record of this key
abbrev pub with_key : Key → Option Record → Option Record
with_key key None = None
with_key key (Some r) = if same_key r.key key then Some r else None

-- the record of a key, or None if it is not linked
abbrev pub record_at : Tree → Key → Option Record
record_at t key = option_and_then (with_key key) (slice_get t key.slot)

-- whether the tree has a record of this key
abbrev pub is_linked : Tree → Key → Bool
is_linked t key = is_some (record_at t key)

-- the directory that a key's record is in; the root, and a key that is not linked, have none
abbrev pub parent_of : Tree → Key → Option Key
parent_of t key = option_and_then (λ r. r.parent) (record_at t key)

-- the marks of a key's record, or None if it is not linked
abbrev pub marks_of : Tree → Key → Option NodeFlags
marks_of t key = option_map (λ r. r.marks) (record_at t key)

-- whether the node is a directory
abbrev pub is_dir : Node → Bool
is_dir Dir = true
is_dir (File mode tag) = false
is_dir (Link target) = false

-- the tree has this record, in the slot of its key
abbrev pub IsIn : Tree → Record → Type 0
IsIn t r = slice_get t r.key.slot ≡ Some (Some r)

-- the key after n steps up
abbrev pub climb : (Key → Option Key) → ℕ → Key → Option Key
climb up zero key = Some key
climb up (suc n) key = option_and_then (climb up n) (up key)

-- the key after n steps from a key to its parent
abbrev pub ancestor : Tree → ℕ → Key → Option Key
ancestor t n key = climb (parent_of t) n key

-- whether the top is met within n steps up
abbrev pub meets : (Key → Option Key) → ℕ → Key → Option Key → Bool
meets up n top None = false
meets up zero top (Some key) = same_key key top
meets up (suc n) top (Some key) = if same_key key top then true else meets up n top (up key)

-- whether following parents from the key meets the top (a key meets itself, linked or not)
abbrev pub in_subtree : Tree → Key → Key → Bool
in_subtree t top key = meets (parent_of t) (length t) top (Some key)
