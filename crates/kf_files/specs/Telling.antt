-- How a removal or a hiding notifies the threads that wait: by the event numbers of its slots.
use Rattle.std.specs.Prelude.{◌≡◌, ◌⊎◌, ℕ, ◌-◌, ◌^◌, ◌<◌, ◌≤◌, List, [], ◌∷◌}
use Rattle.kf_core.specs.declared.key.Key.{Key}
use Rattle.kf_notify.specs.PostStates.{Numbers, HandleRaised, HandleFound, id_of}

-- the slot has a number, and the handle's next two steps in the one run were a load of it, and a raise to the
-- number after the one that was loaded
abbrev pub SlotRaised : Numbers → ℕ → Numbers → Type 0
SlotRaised old slot new = (slot < old.slots) × ((number : ℕ) × HandleRaised old slot number new)

-- the slot has a number, and the handle's next step in the one run was a load that found it at 2^64 - 1, the
-- last one
abbrev pub SlotFull : Numbers → ℕ → Numbers → Type 0
SlotFull old slot new = (slot < old.slots) × HandleFound old slot (2 ^ 64 - 1) new

-- the slot's number was raised, or was found at the last one, or the slot has no number and nothing was done;
-- the handle is still one of the same numbers
pub record WasTold (old : Numbers) (slot : ℕ) (new : Numbers) : Type 0 where
  pub same : id_of new ≡ id_of old
  pub told : SlotRaised old slot new ⊎ SlotFull old slot new ⊎ ((old.slots ≤ slot) × (new ≡ old))

-- the slots of these keys were notified, each once and in this order, and no other was
abbrev pub WereTold : Numbers → List Key → Numbers → Type 0
WereTold old [] new = new ≡ old
WereTold old (key ∷ keys) new = (between : Numbers) × WasTold old key.slot between × WereTold between keys new
