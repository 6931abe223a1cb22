-- What stays the same about a seat over its steps.
use Rattle.std.specs.Prelude.{◌≡◌}
use Rattle.atomic_table.specs.declared.shared.Seat.{Seat}
use Rattle.kf_gates.specs.declared.view.GatePlan.{GatePlan}
use Rattle.kf_gates.specs.declared.view.GateView.{GateView}
use Rattle.kf_gates.specs.declared.view.GateView.TheVariants.{Keeps}
use Rattle.kf_gates.specs.Rule.{looks_of}

-- the same seat of the same table
abbrev pub IsSameSeat : Seat (Unit {0}) GateView → Seat (Unit {0}) GateView → Type 0
IsSameSeat old new = (new.table_id ≡ old.table_id) × (new.id ≡ old.id)

-- the seat is the keeper's, and has this plan
abbrev pub HasPlan : GatePlan → GateView → Type 0
HasPlan plan view = view ≡ Keeps plan (looks_of view)
