-- The keys of slots, changes of records key by key, and how many are linked, doomed or hidden.
use Rattle.std.specs.Prelude.{ℕ, ◌+◌, Bool, false, List, Option, None, Some, slice_get, fold, count_by, is_some}
use Rattle.std.specs.Option.{option_map, option_and_then, option_map_or}
use Rattle.kf_core.specs.declared.key.Key.{Key}
use Rattle.kf_core.specs.declared.records.Record.{Record}
use Rattle.kf_core.specs.Tree.{Tree, in_subtree}
use Rattle.kf_table.specs.Changes.{with_changed_slot, is_undoomed}

-- the key of the record in a slot
abbrev pub key_in : Tree → ℕ → Option Key
key_in t slot = option_map (λ r. r.key) (option_and_then (λ r. r) (slice_get t slot))

-- whether the slot has the key itself, or a record above it
abbrev pub is_over_key : Tree → Key → Option Record → Bool
is_over_key t key slot = option_map_or (λ r. in_subtree t r.key key) slot false

-- ---- changes slot by slot

-- the tree with the record of each key changed, one after another
abbrev pub with_changed_slots : (Record → Record) → Tree → List Key → Tree
with_changed_slots f t keys = fold (λ x key. with_changed_slot f x key.slot) t keys

-- ---- how many

-- how many records are linked
abbrev pub linked_count : Tree → ℕ
linked_count t = count_by is_some t

-- whether the slot has a record that is doomed
abbrev pub is_doomed_record : Option Record → Bool
is_doomed_record None = false
is_doomed_record (Some r) = r.marks.doomed

-- how many records are doomed
abbrev pub doomed_count : Tree → ℕ
doomed_count t = count_by is_doomed_record t

-- whether the slot has a record that is hidden
abbrev pub is_hidden_record : Option Record → Bool
is_hidden_record None = false
is_hidden_record (Some r) = r.hidden

-- how many records are hidden
abbrev pub hidden_count : Tree → ℕ
hidden_count t = count_by is_hidden_record t

-- how many later commands need room: an unlink of each doomed record, and a show of each hidden one
abbrev pub owed_count : Tree → ℕ
owed_count t = doomed_count t + hidden_count t

-- how many of the keys have a record that is not doomed
abbrev pub undoomed_count : Tree → List Key → ℕ
undoomed_count t keys = count_by (λ key. is_undoomed (slice_get t key.slot)) keys
