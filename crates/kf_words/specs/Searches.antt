-- A search for a free slot that is under way, the marks of what it skips, and what the Master keeps of these
-- marks.
use Rattle.std.specs.Prelude.{◌≡◌, ◌≤◌, ℕ, ◌*◌, ◌/◌, ◌%◌, Bool, true, false, List, length, Option, None, Some, slice_get, slice_index}
use Rattle.std.specs.Int.{bit_at}
use Rattle.kf_core.specs.Limits.{most_slots}
use Rattle.kf_core.specs.declared.key.Node.{Node}
use Rattle.kf_core.specs.declared.slot.SlotState.{SlotState}
use Rattle.kf_words.specs.declared.view.Load.{Load}
use Rattle.kf_words.specs.declared.view.MasterView.{MasterView}
use Rattle.kf_words.specs.Nodes.{is_unlinked, Passed, with_loads, FoundFirst}

-- a search that began at the first view has passed the slots below this one
abbrev pub HasPassed : MasterView → ℕ → MasterView → Type 0
HasPassed first slot m = (loads : List Load) × Passed first.slots slot loads × (m ≡ with_loads loads first)

-- each search that had passed the slots below the first number has then passed those below the second number,
-- or has found the first free slot
abbrev pub SearchesOn : MasterView → ℕ → ℕ → Option ℕ → MasterView → Type 0
SearchesOn m from to None m' = (first : MasterView) → HasPassed first from m → HasPassed first to m'
SearchesOn m from to (Some slot) m' = (first : MasterView) → HasPassed first from m → FoundFirst first slot m'

-- each slot whose bit is set in the word of its block has a linked node, or is the root's, or is not in the
-- table
abbrev pub AreLinked : List ℕ → List SlotState → Type 0
AreLinked full slots =
    (slot : ℕ) → bit_at (slice_index full (slot / 64)) (slot % 64) ≡ 1 → is_unlinked slots slot ≡ false

-- each slot of a group that is marked has a linked node, or is the root's, or is not in the table
abbrev pub AreFull : List Bool → List SlotState → Type 0
AreFull full_groups slots =
    (slot : ℕ) → slice_get full_groups (slot / 8192) ≡ Some true → is_unlinked slots slot ≡ false

-- a search need not look at a slot whose bit is set, nor at a slot of a group that is marked. There are
-- enough words of bits for all slots, but at most as many as the greatest table needs, and a mark for each
-- 128 words
pub record AreMarked (full : List ℕ) (full_groups : List Bool) (slots : List SlotState) : Type 0 where
  pub blocks : AreLinked full slots
  pub groups : AreFull full_groups slots
  pub covered : length slots ≤ 64 * length full
  pub grouped : length full ≡ 128 * length full_groups
  pub few : length full ≤ most_slots / 64

-- what the Master keeps at run time, between any two calls. The slots and the limit are those of its view,
-- and there is a node for each slot. The bits and marks are as AreMarked says, and no hold that the Master
-- counted waits for a seat. There is at least one slot, and at most the greatest number of slots
pub record IsMirrored (m : MasterView) (slots : List SlotState) (nodes : List Node) (holds : ℕ)
    (full : List ℕ) (full_groups : List Bool) : Type 0 where
  pub root : 1 ≤ length slots
  pub few : length slots ≤ most_slots
  pub same_slots : m.slots ≡ slots
  pub same_limit : m.limit ≡ holds
  pub no_pin : m.pinning ≡ None
  pub all_nodes : length nodes ≡ length slots
  pub marked : AreMarked full full_groups slots
