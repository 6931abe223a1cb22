-- What the words say at every moment.
use Rattle.std.specs.Prelude.{◌≡◌, ℕ, ◌/◌, true, false, slice_index}
use mathlib.Core.Option.{some}
use lib.ListN.{get_elem?}
use Rattle.kf_gates.specs.declared.view.GatePlan.{GatePlan}
use Rattle.kf_gates.specs.declared.view.GateView.{GateView}
use Rattle.kf_gates.specs.declared.view.GateView.TheVariants.{Keeps, Inside, Turned}
use Rattle.kf_gates.specs.Rule.{Table, Kept}
use Rattle.kf_gates.specs.Steps.{looked}

-- the seat with this number knows this
abbrev pub Has : Table → ℕ → GateView → Type 0
Has t j v = get_elem? t.views j ≡ some v

-- the keeper's plan says that the last opening is over: the gate is shut, and every lane counts as seen empty
-- since then
pub record IsOver (lanes : ℕ) (p : GatePlan) : Type 0 where
  pub shut : p.shut ≡ true
  pub seen : p.seen ≡ lanes

-- whoever is inside came in under the number of the last opening
abbrev pub InsideOnLast : Type 0
InsideOnLast = (lanes : ℕ) (t : Table) → Kept lanes t
    → (seat lane number : ℕ) → Has t seat (Inside lane number) → slice_index t.words 0 / 2 ≡ number

-- once the keeper has seen all lanes empty since it shut the gate, nobody is inside
abbrev pub ClosedIsEmpty : Type 0
ClosedIsEmpty = (lanes : ℕ) (t : Table) → Kept lanes t
    → (p : GatePlan) (n : ℕ) → Has t 0 (Keeps p n) → IsOver lanes p
    → (seat lane number : ℕ) → Has t seat (Inside lane number) → ⊥

-- while the gate is shut, a look at its word lets nobody in
abbrev pub ShutLetsNobodyIn : Type 0
ShutLetsNobodyIn = (lanes : ℕ) (t : Table) → Kept lanes t
    → (p : GatePlan) (n : ℕ) → Has t 0 (Keeps p n) → p.shut ≡ true
    → (lane : ℕ) → looked (slice_index t.words 0) lane ≡ Turned lane (slice_index t.words 0)

-- while the gate is open, a look at its word lets the caller in, under the number of the opening
abbrev pub OpenLetsIn : Type 0
OpenLetsIn = (lanes : ℕ) (t : Table) → Kept lanes t
    → (p : GatePlan) (n : ℕ) → Has t 0 (Keeps p n) → p.shut ≡ false
    → (lane : ℕ) → looked (slice_index t.words 0) lane ≡ Inside lane p.number
