-- Callers inside a gate, and what the words say of the gate's call.
use Rattle.std.specs.Prelude.{◌⊎◌, ℕ, IsTrue}
use Rattle.kf_core.specs.declared.key.Key.{Key}
use Rattle.kf_core.specs.declared.caller.Phase.{Phase}
use Rattle.kf_core.specs.declared.caller.Phase.TheVariants.{Running}
use Rattle.kf_core.specs.Phases.{saw_unused}
use Rattle.kf_core.specs.Bare.{BareWorld, IsCaller}
use Rattle.kf_core.specs.Safe.{Safe}
use Rattle.kf_gates.specs.declared.view.GatePlan.{GatePlan}
use Rattle.kf_gates.specs.declared.view.GateView.TheVariants.{Keeps, Inside}
use Rattle.kf_gates.specs.Rule.{Table, Kept}
use Rattle.kf_gates.specs.Laws.{Has, IsOver}

-- the keeper has seen every lane empty since it shut the gate
abbrev pub IsClosed : ℕ → Table → Type 0
IsClosed lanes t = (p : GatePlan) × ((n : ℕ) × Has t 0 (Keeps p n)) × IsOver lanes p

-- the gate is closed, or the call that it keeps is running on the key (a `Keeper` owns that call, and only
-- functions that have seen the gate closed return it)
abbrev pub KeepsCall : ℕ → Table → BareWorld → ℕ → Key → Type 0
KeepsCall lanes t w c key = IsClosed lanes t ⊎ IsCaller w c key Running

-- while somebody is inside the gate, no caller of the key is Drained, Parted or Hidden
abbrev pub InsideIsCovered : Type 0
InsideIsCovered = (lanes : ℕ) (t : Table) → Kept lanes t → (w : BareWorld) → Safe w
    → (c : ℕ) (key : Key) → KeepsCall lanes t w c key
    → (seat lane number : ℕ) → Has t seat (Inside lane number)
    → (d : ℕ) (phase : Phase) → IsCaller w d key phase → IsTrue (saw_unused phase) → ⊥
