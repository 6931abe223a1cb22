-- What contracts see of a gate's keeper, of a pass, and of a call through the gate.
use Rattle.std.specs.Prelude.{◌≡◌, ◌≢◌, ◌⊎◌, ℕ, ◌<◌, ◌≤◌, false}
pub use Rattle.atomic_table.specs.Seated.{TableId}
use Rattle.kf_core.specs.declared.caller.Phase.{Phase}
use Rattle.kf_core.specs.declared.caller.Phase.TheVariants as phase_of
use Rattle.kf_core.specs.declared.refusal.Refusal.{Refusal}
use Rattle.kf_core.specs.declared.refusal.Refusal.TheVariants.{TooManyHolds, NoMemory}
use Rattle.kf_gates.specs.declared.view.GatePlan.{GatePlan}
use Rattle.kf_gates.specs.declared.view.GateView.{GateView}
use Rattle.kf_gates.specs.declared.view.GateView.TheVariants.{Outside, Looked, Full, Inside, Broken, Restored}
use Rattle.kf_gates.specs.Rule.{gate_word, most_passes}

-- which gate it is, and how many lanes it has
pub record Gate : Type 0 where
  pub table : TableId
  pub lanes : ℕ

-- which seat of which gate
pub record GateSeat : Type 0 where
  pub gate : Gate
  pub number : ℕ

-- the keeper of a closed gate, whose seat knows this plan
pub record ClosedState : Type 0 where
  pub seat : GateSeat
  pub plan : GatePlan

-- the keeper of a gate: its seat knows this plan and has looked at lanes this many times, and the keeper
-- keeps this value
pub record KeeperState (Kept : Type 0) : Type 0 where
  pub seat : GateSeat
  pub plan : GatePlan
  pub looks : ℕ
  pub kept : Kept

-- an opening of a gate: the seat of the gate's keeper, and the number of the opening
pub record Opening : Type 0 where
  pub seat : GateSeat
  pub number : ℕ

abbrev pub opening_of : {Kept : Type 0} → KeeperState Kept → Opening
opening_of keeper = record { seat = keeper.seat; number = keeper.plan.number }

abbrev pub last_opening : ClosedState → Opening
last_opening closed = record { seat = closed.seat; number = closed.plan.number }

-- a pass: its seat, its lane, and what the seat knows
pub record PassState : Type 0 where
  pub seat : GateSeat
  pub lane : ℕ
  pub view : GateView

-- a call through a gate, under the number of an opening
pub record CallState : Type 0 where
  pub seat : GateSeat
  pub lane : ℕ
  pub number : ℕ
  pub phase : Phase
  pub view : GateView

-- what the seat of a call in this phase knows
abbrev pub call_view : Phase → ℕ → ℕ → GateView
call_view phase_of.Still lane number = Outside
call_view phase_of.Turned lane number = Outside
call_view phase_of.Running lane number = Inside lane number
call_view phase_of.Broken lane number = Broken lane number
call_view phase_of.Restored lane number = Restored lane number
call_view phase_of.Drained lane number = Outside
call_view phase_of.Parted lane number = Outside
call_view phase_of.Hiding lane number = Outside
call_view phase_of.Hidden lane number = Outside
call_view phase_of.Spent lane number = Outside

-- the look that the pass made in its lane found that the gate was not open under this number
abbrev pub WasRefused : ℕ → PassState → Type 0
WasRefused number pass = (word : ℕ) × (pass.view ≡ Looked word) × (word ≢ gate_word number false)

-- the keeper has looked at lanes since the old state, and its last look found a caller counted in the next
-- lane
pub record FoundUser {Kept : Type 0} (old new : KeeperState Kept) : Type 0 where
  pub looked : old.looks < new.looks
  pub lane : new.plan.seen < new.seat.gate.lanes
  pub found : 0 < new.plan.found

-- no pass is made if the gate was found with the greatest number of seats, or if its words can have no
-- further owner. Either way the pass that was counted is taken back
abbrev pub PassRefused : PassState → Refusal → Type 0
PassRefused by why = ((why ≡ TooManyHolds) × ((made : ℕ) × (by.view ≡ Full made) × (most_passes ≤ made)))
    ⊎ ((why ≡ NoMemory) × (by.view ≡ Outside))

-- the same keeper, of the same opening, with the same value
pub record KeepsOn {Kept : Type 0} (old new : KeeperState Kept) : Type 0 where
  pub seat : new.seat ≡ old.seat
  pub number : new.plan.number ≡ old.plan.number
  pub kept : new.kept ≡ old.kept

-- a gate may have this number of lanes
pub record IsLanes (lanes : ℕ) : Type 0 where
  pub some : 0 < lanes
  pub few : lanes ≤ 65535

-- the phases of a call
abbrev pub IsInCall : Phase → Type 0
IsInCall phase_of.Still = ⊥
IsInCall phase_of.Turned = ⊥
IsInCall phase_of.Running = Unit {0}
IsInCall phase_of.Broken = Unit {0}
IsInCall phase_of.Restored = Unit {0}
IsInCall phase_of.Drained = ⊥
IsInCall phase_of.Parted = ⊥
IsInCall phase_of.Hiding = ⊥
IsInCall phase_of.Hidden = ⊥
IsInCall phase_of.Spent = ⊥

-- the same call, by the same lane, under the same number
pub record IsSameCall (old new : CallState) : Type 0 where
  pub seat : new.seat ≡ old.seat
  pub lane : new.lane ≡ old.lane
  pub number : new.number ≡ old.number
