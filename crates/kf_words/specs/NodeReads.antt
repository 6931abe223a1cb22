-- What a caller reads of a node after the step that counts a hold of it.
use Rattle.std.specs.Prelude.{◌≡◌, ℕ, ◌<◌, Some, List, ◌++◌}
use Rattle.kf_core.specs.declared.key.Key.{Key}
use Rattle.kf_words.specs.declared.sight.Seen.{Seen}
use Rattle.kf_words.specs.Layout.{IsOf}
use Rattle.kf_words.specs.TableSteps.{StepKind, sees_holds_at, counts_hold_at, reads_node}
use Rattle.kf_words.specs.Callers.{CallerSight}
use Rattle.kf_words.specs.Made.{WasMade}
use Rattle.kf_words.specs.NodeWords.{no_notes, notes_after}

-- what the second has seen of the run goes on from all that the first has seen
abbrev pub GoesOn : Seen → Seen → Type 0
GoesOn before after =
    (more : List StepKind) × (after ≡ record { opening = before.opening; steps = before.steps ++ more })

-- suppose that a step counted a hold of a key, and that a later look at the hold word found the key still
-- linked. Then each word of its node that was read between the two is the word that was there when the node
-- was born, by the steps that had been seen when the hold was counted
abbrev pub ReadIsBorn : Type 0
ReadIsBorn = (key : Key) (place : ℕ) → place < 5 → (first counted before read then last : CallerSight)
    → WasMade (counts_hold_at key.slot) first counted → counted.view.pinning ≡ Some key
    → GoesOn counted.seen before.seen → WasMade (reads_node key.slot place) before read
    → GoesOn read.seen then.seen → WasMade (sees_holds_at key.slot) then last
    → IsOf key.generation last.view.found
    → read.view.found ≡ (notes_after no_notes counted.seen.steps).born key.slot place
