-- The marks in the slots of a world: when they are those of a tree, and what they are after a change of
-- several nodes.
use Rattle.std.specs.Prelude.{◌≡◌, Bool, not, ◌&&◌, ◌||◌, List, slice_get, Option}
use Rattle.std.specs.List.{list_any}
use Rattle.std.specs.Option.{option_map}
use Rattle.kf_core.specs.declared.key.Key.{Key}
use Rattle.kf_core.specs.declared.slot.NodeFlags.{NodeFlags}
use Rattle.kf_core.specs.declared.slot.SlotState.{SlotState}
use Rattle.kf_core.specs.Bare.{marks_in}
use Rattle.kf_core.specs.Keys.{same_key}
use Rattle.kf_core.specs.Tree.{Tree, marks_of}

-- the marks of a key in the slots, if it is linked
abbrev pub marks_at : List SlotState → Key → Option NodeFlags
marks_at slots key = marks_in (slice_get slots key.slot) key.generation

-- each key has the same marks in both, so both have the same linked, activated and doomed keys
abbrev pub SameMarks : List SlotState → Tree → Type 0
SameMarks slots tree = (key : Key) → marks_at slots key ≡ marks_of tree key

-- whether the key is in the list
abbrev pub contains_key : List Key → Key → Bool
contains_key keys key = list_any (λ k. same_key k key) keys

-- the marks after a doom that may have chosen this key
abbrev pub doomed_if : Bool → NodeFlags → NodeFlags
doomed_if chosen m = record { activated = m.activated; doomed = chosen || m.doomed }

-- the marks after an activation that may have chosen this key: it is activated if it was so before, or if it
-- was chosen and is not doomed
abbrev pub risen_if : Bool → NodeFlags → NodeFlags
risen_if chosen m = record { activated = (chosen && not m.doomed) || m.activated; doomed = m.doomed }

-- the new marks of each key are its old ones after this change, for which exactly these keys were chosen
abbrev pub Changed : (Bool → NodeFlags → NodeFlags) → List Key → List SlotState → List SlotState → Type 0
Changed change keys old new =
    (key : Key) → marks_at new key ≡ option_map (change (contains_key keys key)) (marks_at old key)
