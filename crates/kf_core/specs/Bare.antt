-- The world without the shape of the tree: each slot with its last generation and the marks of its linked
-- node, and each caller with its key and its phase. A key is hidden if one of the callers hides it.
use Rattle.std.specs.Prelude.{◌≡◌, ℕ, ◌+◌, Bool, true, false, not, ◌&&◌, ◌==◌, List, [], ◌∷◌, replicate, slice_get, slice_set, is_some, Option, None, Some, if◌then◌else◌}
use Rattle.kf_core.specs.declared.key.Key.{Key}
use Rattle.kf_core.specs.declared.caller.Phase.{Phase}
use Rattle.kf_core.specs.declared.caller.Caller.{Caller}
use Rattle.kf_core.specs.declared.slot.NodeFlags.{NodeFlags}
use Rattle.kf_core.specs.declared.slot.SlotState.{SlotState}
use Rattle.kf_core.specs.Keys.{same_key}
use Rattle.kf_core.specs.Marks.{live_marks, are_live, are_doomed}
use Rattle.kf_core.specs.Phases.{is_hiding}

-- the slots and the callers, without the parents, names and nodes of the tree
pub record BareWorld : Type 0 where
  pub slots : List SlotState  -- by slot
  pub callers : List Caller  -- by the number of the caller

-- the marks of a slot's node, or None if its generation is not this one
abbrev pub marks_in : Option SlotState → ℕ → Option NodeFlags
marks_in None generation = None
marks_in (Some slot) generation = if slot.generation == generation then slot.marks else None

-- the marks of a node, or None if it is not linked
abbrev pub marks : BareWorld → Key → Option NodeFlags
marks w key = marks_in (slice_get w.slots key.slot) key.generation

-- whether the node of this key is linked
abbrev pub is_linked : BareWorld → Key → Bool
is_linked w key = is_some (marks w key)

-- whether the caller hides this key
abbrev pub hides : Key → Caller → Bool
hides key c = same_key c.key key && is_hiding c.phase

-- whether one of these callers hides this key
abbrev pub any_hides : Key → List Caller → Bool
any_hides key [] = false
any_hides key (c ∷ cs) = if hides key c then true else any_hides key cs

-- whether a caller hides the key, linked or not
abbrev pub is_hidden : BareWorld → Key → Bool
is_hidden w key = any_hides key w.callers

-- whether the key is linked, activated, not doomed and not hidden
abbrev pub is_live : BareWorld → Key → Bool
is_live w key = are_live (marks w key) && not (is_hidden w key)

-- whether the key is doomed, or not linked
abbrev pub is_doomed : BareWorld → Key → Bool
is_doomed w key = are_doomed (marks w key)

-- the caller of this number has this key and this phase
abbrev pub IsCaller : BareWorld → ℕ → Key → Phase → Type 0
IsCaller w c key phase = slice_get w.callers c ≡ Some (record { key = key; phase = phase })

-- the last generation of this slot
abbrev pub IsLast : BareWorld → ℕ → ℕ → Type 0
IsLast w slot generation =
    (state : SlotState) × (slice_get w.slots slot ≡ Some state) × (state.generation ≡ generation)

-- every slot has the last generation `start` and no node, except that the root is linked and live, with the
-- next generation; there are no callers
abbrev pub opening : ℕ → ℕ → BareWorld
opening count start = record {
  slots = slice_set (replicate count (record { generation = start; marks = None })) 0
      (record { generation = start + 1; marks = Some live_marks });
  callers = [];
}
