-- One atomic step of the bare world: when it may happen, and what it changes.
use Rattle.std.specs.Prelude.{◌≡◌, ◌≢◌, ℕ, ◌+◌, ◌⊎◌, List, [], ◌∷◌, ◌++◌, length, slice_get, slice_set, Option, None, Some, if◌then◌else◌, IsTrue, IsFalse, true, false}
use Rattle.kf_core.specs.declared.key.Key.{Key}
use Rattle.kf_core.specs.declared.caller.Phase.{Phase}
use Rattle.kf_core.specs.declared.caller.Phase.TheVariants.{Still, Turned, Running, Broken, Restored, Drained, Parted, Hiding, Hidden, Spent}
use Rattle.kf_core.specs.declared.slot.NodeFlags.{NodeFlags}
use Rattle.kf_core.specs.declared.event.Event.{Event}
use Rattle.kf_core.specs.declared.event.Event.TheVariants.{Born, Rise, Mark, Move, Pin, Enter, Leave, Break, Restore, Look, Unlink, Part, Hide, LookHidden, Show, Release, Undo}
use Rattle.kf_core.specs.Marks.{fresh_marks, live_marks}
use Rattle.kf_core.specs.Phases.{is_waiting, has_reference, may_release}
use Rattle.kf_core.specs.Bare.{BareWorld, marks, is_linked, is_live, is_doomed, is_hidden, IsCaller}

-- the world in which the caller of this number has this key and this phase
abbrev pub with_phase : BareWorld → ℕ → Key → Phase → BareWorld
with_phase w c key phase =
    record { slots = w.slots; callers = slice_set w.callers c (record { key = key; phase = phase }) }

-- the world in which the key's slot has the key's generation and these marks
abbrev pub with_marks : BareWorld → Key → Option NodeFlags → BareWorld
with_marks w key m = record {
  slots = slice_set w.slots key.slot
      (record { generation = key.generation; marks = m });
  callers = w.callers;
}

-- the world with one more caller, which holds the key
abbrev pub with_caller : BareWorld → Key → BareWorld
with_caller w key =
    record { slots = w.slots; callers = w.callers ++ record { key = key; phase = Still } ∷ [] }

-- only spent callers are on the slot
abbrev pub OnlySpent : BareWorld → ℕ → Type 0
OnlySpent w slot =
    (c : ℕ) (key : Key) (phase : Phase) → IsCaller w c key phase → key.slot ≡ slot → phase ≡ Spent

-- nobody has a reference to the node
abbrev pub NoReference : BareWorld → Key → Type 0
NoReference w key = (c : ℕ) (phase : Phase) → IsCaller w c key phase → IsFalse (has_reference phase)

-- the slot has no linked node and only spent callers, and the key has its next generation
pub record MayBeBorn (w : BareWorld) (key : Key) : Type 0 where
  pub last : ℕ
  pub unlinked : slice_get w.slots key.slot ≡ Some (record { generation = last; marks = None })
  pub next : key.generation ≡ last + 1
  pub unheld : OnlySpent w key.slot

-- a caller holds the key
pub record IsHeld (w : BareWorld) (key : Key) : Type 0 where
  pub caller : ℕ
  pub phase : Phase
  pub there : IsCaller w caller key phase
  pub holds : phase ≢ Spent

-- the node is linked, or somebody holds it
abbrev pub MayPin : BareWorld → Key → Type 0
MayPin w key = IsTrue (is_linked w key) ⊎ IsHeld w key

-- the caller waits, its node is doomed, and nobody has a reference to the node
pub record MayLook (w : BareWorld) (c : ℕ) : Type 0 where
  pub key : Key
  pub phase : Phase
  pub there : IsCaller w c key phase
  pub waits : IsTrue (is_waiting phase)
  pub doomed : IsTrue (is_doomed w key)
  pub unused : NoReference w key

-- the caller is drained, and its node is not linked
pub record MayPart (w : BareWorld) (c : ℕ) : Type 0 where
  pub key : Key
  pub there : IsCaller w c key Drained
  pub gone : IsFalse (is_linked w key)

-- the caller waits, and nobody hides its node
pub record MayHide (w : BareWorld) (c : ℕ) : Type 0 where
  pub key : Key
  pub phase : Phase
  pub there : IsCaller w c key phase
  pub waits : IsTrue (is_waiting phase)
  pub shown : IsFalse (is_hidden w key)

-- the caller hides its node, and nobody has a reference to the node
pub record MayLookHidden (w : BareWorld) (c : ℕ) : Type 0 where
  pub key : Key
  pub there : IsCaller w c key Hiding
  pub unused : NoReference w key

-- one step of each kind: when it may happen, and the world after it
abbrev pub BareStep : BareWorld → Event → BareWorld → Type 0
BareStep w (Born key parent name node) w' = MayBeBorn w key × (w' ≡ with_marks w key (Some fresh_marks))
BareStep w (Rise key) w' = (marks w key ≡ Some fresh_marks) × (w' ≡ with_marks w key (Some live_marks))
BareStep w (Mark key) w' = (m : NodeFlags) × (marks w key ≡ Some m) × (m.doomed ≡ false)
    × (w' ≡ with_marks w key (Some (record { activated = m.activated; doomed = true })))
BareStep w (Move key dir name) w' = w' ≡ w
BareStep w (Pin c key) w' = (c ≡ length w.callers) × MayPin w key × (w' ≡ with_caller w key)
BareStep w (Enter c) w' = (key : Key) × (phase : Phase) × IsCaller w c key phase × IsTrue (is_waiting phase)
    × (w' ≡ with_phase w c key (if is_live w key then Running else Turned))
BareStep w (Leave c) w' = (key : Key) × (phase : Phase) × IsCaller w c key phase
    × IsTrue (has_reference phase) × (w' ≡ with_phase w c key Still)
BareStep w (Break c) w' = (key : Key) × IsCaller w c key Running × (w' ≡ with_phase w c key Broken)
BareStep w (Restore c) w' = (key : Key) × IsCaller w c key Broken × (w' ≡ with_phase w c key Restored)
BareStep w (Look c) w' = (may : MayLook w c) × (w' ≡ with_phase w c may.key Drained)
BareStep w (Unlink c) w' =
    (key : Key) × IsCaller w c key Drained × IsTrue (is_linked w key) × (w' ≡ with_marks w key None)
BareStep w (Part c) w' = (may : MayPart w c) × (w' ≡ with_phase w c may.key Parted)
BareStep w (Hide c) w' = (may : MayHide w c) × (w' ≡ with_phase w c may.key Hiding)
BareStep w (LookHidden c) w' = (may : MayLookHidden w c) × (w' ≡ with_phase w c may.key Hidden)
BareStep w (Show c) w' = (key : Key) × IsCaller w c key Hidden × (w' ≡ with_phase w c key Still)
BareStep w (Release c) w' = (key : Key) × (phase : Phase) × IsCaller w c key phase
    × IsTrue (may_release phase) × (w' ≡ with_phase w c key Spent)
BareStep w (Undo c) w' = w' ≡ w

-- these events, each a step from the bare world before it
abbrev pub BareRun : BareWorld → List Event → BareWorld → Type 0
BareRun w [] w' = w' ≡ w
BareRun w (event ∷ events) w' = (between : BareWorld) × BareStep w event between × BareRun between events w'
