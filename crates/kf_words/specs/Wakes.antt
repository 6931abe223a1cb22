-- Which seats sleep at a slot, by the steps of a run, and what a load of the count of sleepers finds.
use Rattle.std.specs.Prelude.{◌≡◌, ◌≢◌, ◌≤◌, ◌<◌, ℕ, List, ◌∷◌, ◌++◌, All, length, slice_index}
use Rattle.kf_words.specs.declared.sight.Opening.{Opening}
use Rattle.kf_words.specs.Layout.{sleepers_index}
use Rattle.kf_words.specs.TableSteps.{Table, StepKind, WordRun, WordStep, awakes, loads_sleepers, sleeps}
use Rattle.kf_words.specs.History.{opened_as}

-- after these steps the caller of this number sleeps at this slot: it counted itself among the sleepers, and
-- has not taken itself off since
abbrev pub IsAsleep : ℕ → ℕ → List StepKind → Type 0
IsAsleep slot j kinds = (before : List StepKind) × (later : List StepKind)
    × (kinds ≡ before ++ sleeps slot j ∷ later) × All (λ kind. kind ≢ awakes slot j) later

-- a caller takes itself off the count of this slot's sleepers only while it sleeps there
abbrev pub OnlySleepersAwake : ℕ → List StepKind → Type 0
OnlySleepersAwake slot kinds = (before later : List StepKind) (j : ℕ)
    → kinds ≡ before ++ awakes slot j ∷ later → IsAsleep slot j before

-- take a run from an opening with at least one slot, and with at most 65535 holds of a slot. The run has
-- fewer than 2^64 steps, and callers take themselves off the count only while they sleep. As long as a caller
-- sleeps at the slot, a load of the count finds a number above 0
abbrev pub SleepersAreFound : Type 0
SleepersAreFound = (o : Opening) → 1 ≤ o.slots → o.holds ≤ 65535
    → (kinds : List StepKind) (t u : Table) (slot sleeper loader : ℕ) → WordRun (opened_as o) kinds t
    → length kinds < 18446744073709551616 → slot < o.slots → OnlySleepersAwake slot kinds
    → IsAsleep slot sleeper kinds → WordStep t (loads_sleepers slot loader) u
    → 0 < slice_index t.words (sleepers_index slot)
