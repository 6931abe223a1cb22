-- What the world keeps beside its slots and callers, so that no call has to walk the callers.
use Rattle.std.specs.Prelude.{◌≡◌, ℕ, ◌+◌, ◌<◌, ◌≤◌, ◌&&◌, ◌==◌, List, length, count_by, slice_get, Some}
use Rattle.kf_core.specs.Limits.{most_slots}
use Rattle.kf_core.specs.declared.caller.Phase.{Phase}
use Rattle.kf_world.specs.declared.counts.Counts.{Counts}
use Rattle.kf_world.specs.declared.world.hint.Hint.{Hint}
use Rattle.kf_core.specs.Phases.{has_reference, is_hiding, is_spent}
use Rattle.kf_core.specs.Bare.{BareWorld}
use Rattle.kf_core.specs.Safe.{Safe}
use Rattle.kf_world.specs.Bounded.{IsFree, holds}
use Rattle.kf_world.specs.Hints.{Covers, Skips}

-- the counts of a slot without callers
abbrev pub no_counts : Counts
no_counts = record { holds = 0; references = 0; hiders = 0 }

-- the counts with one more hold
abbrev pub with_hold : Counts → Counts
with_hold c = record { holds = c.holds + 1; references = c.references; hiders = c.hiders }

-- a caller holds the slot
abbrev pub IsHeldIn : List Counts → ℕ → Type 0
IsHeldIn counts slot = (c : Counts) × (slice_get counts slot ≡ Some c) × (1 ≤ c.holds)

-- a caller is counted the same way in the two phases
abbrev pub CountsAs : Phase → Phase → Type 0
CountsAs p q =
    (is_spent p ≡ is_spent q) × (has_reference p ≡ has_reference q) × (is_hiding p ≡ is_hiding q)

-- how many callers on the slot have a reference
abbrev pub references : BareWorld → ℕ → ℕ
references w slot = count_by (λ c. (c.key.slot == slot) && has_reference c.phase) w.callers

-- how many callers on the slot hide their key
abbrev pub hiders : BareWorld → ℕ → ℕ
hiders w slot = count_by (λ c. (c.key.slot == slot) && is_hiding c.phase) w.callers

-- these are the counts of the slot
abbrev pub CountsAre : BareWorld → ℕ → Counts → Type 0
CountsAre w slot c =
    (c.holds ≡ holds w slot) × (c.references ≡ references w slot) × (c.hiders ≡ hiders w slot)

-- the counts of each slot are exact
abbrev pub IsCounted : BareWorld → List Counts → Type 0
IsCounted w counts = (slot : ℕ) (c : Counts) → slice_get counts slot ≡ Some c → CountsAre w slot c

-- no slot from 1 up to but not including this one is free
abbrev pub NoneFree : BareWorld → ℕ → Type 0
NoneFree w below = (slot : ℕ) → 1 ≤ slot → slot < below → ¬ IsFree w slot

-- the world is safe and has at most the greatest number of slots. There are exact counts, and room for marks,
-- for each of its slots. From slot 1 up, the search for a free slot skips none that is free
pub record IsSoundWorld (w : BareWorld) (counts : List Counts) (hint : Hint) : Type 0 where
  pub safe : Safe w
  pub few : length w.slots ≤ most_slots
  pub as_long : length counts ≡ length w.slots
  pub counted : IsCounted w counts
  pub covered : Covers hint.taken (length w.slots)
  pub skipped : (slot : ℕ) → 1 ≤ slot → Skips hint.lowest hint.taken slot → ¬ IsFree w slot
