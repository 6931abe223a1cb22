-- The rule of a gate's words: what they show of what all seats know.
use Rattle.std.specs.Prelude.{◌≡◌, ℕ, ◌+◌, ◌*◌, ◌<◌, ◌≤◌, ◌==◌, Bool, true, false, List, [], ◌∷◌, length, slice_index}
use mathlib.Core.Option.{some}
use lib.ListN.{get_elem?}
use Rattle.atomic_table.specs.Table.{State}
use Rattle.kf_gates.specs.declared.view.GatePlan.{GatePlan}
use Rattle.kf_gates.specs.declared.view.GateView.{GateView}
use Rattle.kf_gates.specs.declared.view.GateView.TheVariants.{Keeps, Outside, Looked, Full, Left, Counted, OneTooMany, Knocking, Inside, Turned, Broken, Restored}

abbrev pub Table : Type 0
Table = State (Unit {0}) GateView

-- 1 if the flag is set, else 0
abbrev pub bit : Bool → ℕ
bit true = 1
bit false = 0

-- the gate's word: twice the number of the last opening, plus 1 if the gate is shut
abbrev pub gate_word : ℕ → Bool → ℕ
gate_word number shut = number * 2 + bit shut

-- the greatest number of seats that a gate may have in its life: its keeper's, and one for each pass
abbrev pub most_passes : ℕ
most_passes = 4294967296

-- the seat is a pass: it counts in no lane, and has counted no pass that it has not made
abbrev pub IsPass : GateView → Type 0
IsPass (Keeps p n) = ⊥
IsPass Outside = Unit {0}
IsPass (Looked f) = Unit {0}
IsPass (Full f) = Unit {0}
IsPass (Left f) = Unit {0}
IsPass Counted = ⊥
IsPass (OneTooMany f) = ⊥
IsPass (Knocking k) = ⊥
IsPass (Inside k n) = ⊥
IsPass (Turned k f) = ⊥
IsPass (Broken k n) = ⊥
IsPass (Restored k n) = ⊥

-- whether the seat counts in this lane
abbrev pub is_user : ℕ → GateView → Bool
is_user lane (Keeps p n) = false
is_user lane Outside = false
is_user lane (Looked f) = false
is_user lane (Full f) = false
is_user lane (Left f) = false
is_user lane Counted = false
is_user lane (OneTooMany f) = false
is_user lane (Knocking k) = k == lane
is_user lane (Inside k n) = k == lane
is_user lane (Turned k f) = k == lane
is_user lane (Broken k n) = false
is_user lane (Restored k n) = k == lane

-- whether the seat is inside, by this lane
abbrev pub is_inside : ℕ → GateView → Bool
is_inside lane (Keeps p n) = false
is_inside lane Outside = false
is_inside lane (Looked f) = false
is_inside lane (Full f) = false
is_inside lane (Left f) = false
is_inside lane Counted = false
is_inside lane (OneTooMany f) = false
is_inside lane (Knocking k) = false
is_inside lane (Inside k n) = k == lane
is_inside lane (Turned k f) = false
is_inside lane (Broken k n) = false
is_inside lane (Restored k n) = false

-- how many passes the seat has counted that have no seat yet
abbrev pub counted_by : GateView → ℕ
counted_by (Keeps p n) = bit p.spare
counted_by Outside = 0
counted_by (Looked f) = 0
counted_by (Full f) = 0
counted_by (Left f) = 0
counted_by Counted = 1
counted_by (OneTooMany f) = 1
counted_by (Knocking k) = 0
counted_by (Inside k n) = 0
counted_by (Turned k f) = 0
counted_by (Broken k n) = 0
counted_by (Restored k n) = 0

-- how many passes the seat may still make
abbrev pub due_from : GateView → ℕ
due_from (Keeps p n) = bit p.spare
due_from Outside = 0
due_from (Looked f) = 0
due_from (Full f) = 0
due_from (Left f) = 0
due_from Counted = 1
due_from (OneTooMany f) = 0
due_from (Knocking k) = 0
due_from (Inside k n) = 0
due_from (Turned k f) = 0
due_from (Broken k n) = 0
due_from (Restored k n) = 0

-- how many looks at lanes it has made, if it is the keeper's
abbrev pub looks_of : GateView → ℕ
looks_of (Keeps p n) = n
looks_of other = 0

-- the sum of this function over all seats
abbrev pub total : (GateView → ℕ) → List GateView → ℕ
total f [] = 0
total f (v ∷ vs) = f v + total f vs

-- how many seats count in this lane
abbrev pub users : ℕ → List GateView → ℕ
users lane views = total (λ v. bit (is_user lane v)) views

-- no seat is inside by this lane
abbrev pub NoneInside : ℕ → List GateView → Type 0
NoneInside lane views = (j : ℕ) (v : GateView) → get_elem? views j ≡ some v → is_inside lane v ≡ false

-- what a seat may know. Only the first seat is the keeper's, and has the plan. A lane that a seat names is
-- one of the gate's lanes. A seat that is inside came in under the last number
abbrev pub Knows : ℕ → GatePlan → ℕ → GateView → Type 0
Knows lanes p j (Keeps q n) = (q ≡ p) × (j ≡ 0)
Knows lanes p j Outside = Unit {0}
Knows lanes p j (Looked f) = Unit {0}
Knows lanes p j (Full f) = Unit {0}
Knows lanes p j (Left f) = Unit {0}
Knows lanes p j Counted = Unit {0}
Knows lanes p j (OneTooMany f) = Unit {0}
Knows lanes p j (Knocking k) = k < lanes
Knows lanes p j (Inside k n) = (k < lanes) × (n ≡ p.number)
Knows lanes p j (Turned k f) = k < lanes
Knows lanes p j (Broken k n) = k < lanes
Knows lanes p j (Restored k n) = k < lanes

-- the rule, under the keeper's plan
pub record Kept (lanes : ℕ) (t : Table) : Type 0 where
  pub plan : GatePlan
  pub wide : length t.words ≡ 8 * lanes + 8
  pub word : slice_index t.words 0 ≡ gate_word plan.number plan.shut
  pub passes : slice_index t.words 2 ≡ length t.views + total counted_by t.views
  pub few : length t.views + total due_from t.views ≤ most_passes
  pub counts : (lane : ℕ) → lane < lanes → slice_index t.words (8 * lane + 8) ≡ users lane t.views
  pub still : plan.shut ≡ true → (lane : ℕ) → lane < plan.seen → NoneInside lane t.views
  pub seats : (j : ℕ) (v : GateView) → get_elem? t.views j ≡ some v → Knows lanes plan j v

-- what the keeper of a new gate knows: the gate is shut under the number 0, its lanes count as seen empty,
-- and the keeper may make the first pass
abbrev pub opened : ℕ → GateView
opened lanes = Keeps (record { number = 0; shut = true; seen = lanes; found = 0; spare = true }) 0
