-- Which slots the search for a free one skips.
use Rattle.std.specs.Prelude.{◌≡◌, ℕ, ◌<◌, ◌/◌, ◌%◌, ◌⊎◌, true, length, slice_get, slice_index, Some}
use Rattle.std.specs.Int.{bit_at}
use Rattle.kf_world.specs.declared.world.taken.Taken.{Taken}

-- the slot is marked: its bit in the word of its block of 64 slots is set, or its group of 64 blocks is
-- marked
abbrev pub IsMarked : Taken → ℕ → Type 0
IsMarked taken slot = (bit_at (slice_index taken.blocks.items (slot / 64)) (slot % 64) ≡ 1)
    ⊎ (slice_get taken.groups.items (slot / 4096) ≡ Some true)

-- a slot is skipped if it is below the lowest, or marked
abbrev pub Skips : ℕ → Taken → ℕ → Type 0
Skips lowest taken slot = (slot < lowest) ⊎ IsMarked taken slot

-- there is room for the marks of the slots up to this number
abbrev pub Covers : Taken → ℕ → Type 0
Covers taken slots = (slots / 64 < length taken.blocks.items) × (slots / 4096 < length taken.groups.items)

-- there is room for as many marks as before
abbrev pub AsMany : Taken → Taken → Type 0
AsMany before now = (length now.blocks.items ≡ length before.blocks.items)
    × (length now.groups.items ≡ length before.groups.items)
