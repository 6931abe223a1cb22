-- What contracts see of a `World`: the bare world, and the maximum number of holds of one slot.
use Rattle.std.specs.Prelude.{◌≡◌, ℕ, ◌+◌, ◌-◌, ◌^◌, ◌<◌, ◌≤◌, not, ◌&&◌, ◌==◌, List, count_by, slice_get, None, Some}
use Rattle.kf_core.specs.declared.caller.Caller.{Caller}
use Rattle.kf_core.specs.declared.key.Key.{Key}
use Rattle.kf_core.specs.declared.event.Event.{Event}
use Rattle.kf_core.specs.declared.refusal.Refusal.{Refusal}
use Rattle.kf_core.specs.declared.refusal.Refusal.TheVariants.{NoEntry, TooManyHolds, NoMemory}
use Rattle.kf_core.specs.Phases.{is_spent}
use Rattle.kf_core.specs.Bare.{BareWorld}
use Rattle.kf_core.specs.Steps.{BareStep, MayPin, OnlySpent}

-- the bare world, and the maximum number of holds that one slot may have
pub record BoundedWorld : Type 0 where
  pub world : BareWorld
  pub limit : ℕ

-- the bare world with this limit of holds
abbrev pub bounded : BareWorld → ℕ → BoundedWorld
bounded world limit = record { world = world; limit = limit }

-- how many of the callers hold the slot
abbrev pub hold_count : List Caller → ℕ → ℕ
hold_count callers slot = count_by (λ c. (c.key.slot == slot) && not (is_spent c.phase)) callers

-- how many callers of the world hold the slot
abbrev pub holds : BareWorld → ℕ → ℕ
holds w slot = hold_count w.callers slot

-- one event happened, and the limit is as before
pub record Happens (before : BoundedWorld) (event : Event) (now : BoundedWorld) : Type 0 where
  pub steps : BareStep before.world event now.world
  pub limit : now.limit ≡ before.limit

-- the event may happen: there is a world to which it leads
abbrev pub May : BoundedWorld → Event → Type 0
May before event = (w' : BareWorld) × BareStep before.world event w'

-- the slot is free: it has no linked node and only spent callers, and a generation is left that no node has
-- had
pub record IsFree (w : BareWorld) (slot : ℕ) : Type 0 where
  pub last : ℕ
  pub unlinked : slice_get w.slots slot ≡ Some (record { generation = last; marks = None })
  pub more : last < 2 ^ 32 - 1
  pub unheld : OnlySpent w slot

-- the key is the next one of its slot, and of the slots from 1 up this is the lowest free one
pub record IsNextKey (w : BareWorld) (key : Key) : Type 0 where
  pub from_one : 1 ≤ key.slot
  pub free : IsFree w key.slot
  pub next : key.generation ≡ free.last + 1
  pub lowest : (slot : ℕ) → 1 ≤ slot → slot < key.slot → ¬ IsFree w slot

-- what holds before a pin that is refused with this error; no pin is refused with any other error
abbrev pub PinRefused : BoundedWorld → Key → Refusal → Type 0
PinRefused before key NoEntry = ¬ MayPin before.world key
PinRefused before key TooManyHolds = MayPin before.world key × (before.limit ≤ holds before.world key.slot)
PinRefused before key NoMemory = MayPin before.world key × (holds before.world key.slot < before.limit)
PinRefused before key _ = ⊥
