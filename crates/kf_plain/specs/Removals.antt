-- What the steps of a removal do to the tree, and to the world of callers.
use Rattle.std.specs.Prelude.{◌≡◌, ◌⊎◌, ℕ, ◌<◌, ◌≤◌, true, false, List, take, length, slice_set, slice_index_or, Contains, Option, Some, None, IsTrue, if◌then◌else◌}
use Rattle.kf_core.specs.declared.key.Key.{Key}
use Rattle.kf_core.specs.declared.slot.NodeFlags.{NodeFlags}
use Rattle.kf_core.specs.declared.caller.Caller.{Caller}
use Rattle.kf_core.specs.declared.caller.Phase.TheVariants.{Still, Spent}
use Rattle.kf_core.specs.declared.records.Record.{Record}
use Rattle.kf_core.specs.declared.refusal.Refusal.{Refusal}
use Rattle.kf_core.specs.declared.refusal.Refusal.TheVariants.{NoMemory, TooManyHolds}
use Rattle.kf_core.specs.Bare.{BareWorld, marks}
use Rattle.kf_world.specs.Bounded.{BoundedWorld, bounded, hold_count}
use Rattle.kf_core.specs.Steps.{with_marks}
use Rattle.kf_core.specs.Tree.{Tree, IsIn}
use Rattle.kf_tree.specs.SlotMarks.{contains_key}
use Rattle.kf_plain.specs.Nodes.{spent_on}

-- a caller that holds the key, and has done nothing else yet
abbrev pub still_on : Key → Caller
still_on key = record { key = key; phase = Still }

-- the caller, after it released its key
abbrev pub released : Caller → Caller
released c = record { key = c.key; phase = Spent }

-- the world with these callers
abbrev pub with_callers : BoundedWorld → List Caller → BoundedWorld
with_callers w callers = bounded (record { slots = w.world.slots; callers = callers }) w.limit

-- holds of these nodes are refused: the slot of one of them already has the greatest number of holds; or
-- there was no memory
abbrev pub PinsRefused : BoundedWorld → List Key → Refusal → Type 0
PinsRefused w keys refusal =
    ((refusal ≡ TooManyHolds)
    × ((key : Key) × Contains keys key × (w.limit ≤ hold_count w.world.callers key.slot)))
    ⊎ (refusal ≡ NoMemory)

-- a node is linked, and doomed
abbrev pub IsMarkedDoomed : Option NodeFlags → Type 0
IsMarkedDoomed found = (m : NodeFlags) × (found ≡ Some m) × (m.doomed ≡ true)

-- a node is linked, and not doomed
abbrev pub IsMarkedUndoomed : Option NodeFlags → Type 0
IsMarkedUndoomed found = (m : NodeFlags) × (found ≡ Some m) × (m.doomed ≡ false)

-- each node comes after its children
abbrev pub AreChildrenFirst : Tree → List Key → Type 0
AreChildrenFirst t keys = (i : ℕ) (d : Key) (r : Record) → i < length keys → IsIn t r
    → r.parent ≡ Some (slice_index_or keys i d) → IsTrue (contains_key (take i keys) r.key)

-- these nodes are no longer linked, and all others have the marks that they had
abbrev pub Cleared : List Key → BareWorld → BareWorld → Type 0
Cleared keys old new = (key : Key) → marks new key ≡ if contains_key keys key then None else marks old key

-- the node is no longer linked, and the caller has released it
abbrev pub taken_out : BoundedWorld → ℕ → Key → BoundedWorld
taken_out w id key =
    with_callers (bounded (with_marks w.world key None) w.limit) (slice_set w.world.callers id (spent_on key))
