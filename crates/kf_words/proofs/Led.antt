-- What a step on the words does to the world: nothing, an event, or a change that is not one event.
use Rattle.std.proofs.Common.{◌≡◌, ◌⊎◌, inl, inr, ℕ, true, [], ◌∷◌, ◌++◌}
use Rattle.std.specs.Prelude.{Some, None}
use Rattle.kf_core.specs.declared.key.Key.{Key}
use Rattle.kf_core.specs.declared.caller.Phase.TheVariants.{Spent}
use Rattle.kf_core.specs.declared.event.Event.{Event}
use Rattle.kf_core.specs.declared.event.Event.TheVariants.{Enter}
use Rattle.kf_core.specs.declared.slot.NodeFlags.{NodeFlags}
use Rattle.kf_core.specs.Bare.{BareWorld, marks}
use Rattle.kf_core.specs.Steps.{BareStep}
use Rattle.kf_core.specs.Steps as core
use Rattle.kf_words.specs.TableSteps.{StepKind, tries, splits, unlinks, answers, hands_on}

-- an unlink took out a linked and doomed node; a caller that is drained there is not required
pub record TakenOut (kind : StepKind) (w w' : BareWorld) : Type 0 where
  pub slot : ℕ
  pub kind_is : kind ≡ unlinks slot
  pub key : Key
  pub had : NodeFlags
  pub linked : marks w key ≡ Some had
  pub doomed : had.doomed ≡ true
  pub is : w' ≡ core.with_marks w key None

-- a caller was added to a key by a split, or by a step that hands on a hold; that the key may be pinned is
-- not required
pub record Came (kind : StepKind) (w w' : BareWorld) : Type 0 where
  pub kind_is : ((slot : ℕ) × (kind ≡ splits slot)) ⊎ ((j : ℕ) × (kind ≡ hands_on j))
  pub key : Key
  pub is : w' ≡ core.with_caller w key

-- the world with one more caller, which has released its hold
abbrev pub with_spent : BareWorld → Key → BareWorld
with_spent w key = record { slots = w.slots; callers = w.callers ++ record { key = key; phase = Spent } ∷ [] }

-- a caller pinned a key and released its hold at once. The key may be pinned, unless the Master made the step
pub record Passed (kind : StepKind) (w w' : BareWorld) : Type 0 where
  pub key : Key
  pub may : core.MayPin w key ⊎ (kind ≡ answers)
  pub is : w' ≡ with_spent w key

-- a change that is not one event: a node is taken out, a caller is added, or a caller that holds nothing is
-- added
abbrev pub Alone : StepKind → BareWorld → BareWorld → Type 0
Alone kind w w' = TakenOut kind w w' ⊎ (Came kind w w' ⊎ Passed kind w w')

-- the step is an event, and it is an Enter only if the step is a try of that caller
pub record IsEvent (kind : StepKind) (w w' : BareWorld) : Type 0 where
  pub event : Event
  pub step : BareStep w event w'
  pub only : (c : ℕ) → event ≡ Enter c → kind ≡ tries c

-- the next world is the same, or an event leads to it, or one of these changes does
abbrev pub Led : StepKind → BareWorld → BareWorld → Type 0
Led kind w w' = (w' ≡ w) ⊎ (IsEvent kind w w' ⊎ Alone kind w w')

-- an event leads to the next world
pub happens : (kind : StepKind) (w w' : BareWorld) (e : Event) → BareStep w e w' → ((c : ℕ) → e ≡ Enter c → kind ≡ tries c) → Led kind w w'
happens kind w w' e step only = inr (inl (record { event = e; step = step; only = only }))
