-- What becomes of a thread's way through a gate.
use Rattle.std.specs.Prelude.{◌≡◌, ◌%◌, ◌==◌, ℕ, Bool}
use Rattle.kf_core.specs.declared.refusal.Refusal.{Refusal}
use Rattle.kf_core.specs.declared.refusal.Refusal.TheVariants.{Invalid, NoDevice}
use Rattle.kf_gates.specs.States.{PassRefused, WasRefused}
use Rattle.kf_gates.specs.declared.view.GateView.TheVariants.{Inside, Left}
use Rattle.kf_passes.specs.declared.way.Way.{Way}
use Rattle.kf_passes.specs.declared.way.Way.TheVariants as way

-- the way is inside: it is a call
abbrev pub IsInside : Way → Type 0
IsInside (way.Inside through) = Unit {0}
IsInside (way.Outside pass) = ⊥

-- the way is outside: it is a pass
abbrev pub IsOutside : Way → Type 0
IsOutside (way.Inside through) = ⊥
IsOutside (way.Outside pass) = Unit {0}

-- the pass counted itself in its lane, and then its look found the gate open under the number 1
abbrev pub WasLetIn : Way → Way → Type 0
WasLetIn (way.Outside pass) (way.Inside through) = (through.call.seat ≡ pass.seat)
    × (through.call.lane ≡ pass.lane) × (through.call.view ≡ Inside pass.lane 1)
WasLetIn old new = ⊥

-- why a way is not let in. Either the look of its pass found that the gate is not open under the number 1,
-- and the pass no longer counts in its lane; or the way was already inside
abbrev pub IsKeptOut : Way → Way → Refusal → Type 0
IsKeptOut (way.Outside pass) (way.Outside back) why = (why ≡ NoDevice) × (back.seat ≡ pass.seat)
    × (back.lane ≡ pass.lane) × WasRefused 1 back
IsKeptOut (way.Inside old) (way.Inside new) why = (why ≡ Invalid) × (new ≡ old)
IsKeptOut old new why = ⊥

-- the call left its lane, and this is whether a look after that found the gate shut
abbrev pub WentOut : Way → Way → Bool → Type 0
WentOut (way.Inside through) (way.Outside pass) shut = (pass.seat ≡ through.call.seat)
    × (pass.lane ≡ through.call.lane)
    × ((word : ℕ) × (pass.view ≡ Left word) × (shut ≡ (word % 2 == 1)))
WentOut old new shut = ⊥

-- another pass of the same gate, by this lane modulo the number of lanes
abbrev pub MadeAnother : Way → ℕ → Way → Type 0
MadeAnother (way.Outside pass) lane (way.Outside other) =
    (other.seat.gate ≡ pass.seat.gate) × (other.lane ≡ lane % pass.seat.gate.lanes)
MadeAnother old lane other = ⊥

-- it is the same pass, or the same call
abbrev pub IsSamePass : Way → Way → Type 0
IsSamePass (way.Outside old) (way.Outside new) = (new.seat ≡ old.seat) × (new.lane ≡ old.lane)
IsSamePass (way.Inside old) (way.Inside new) = new ≡ old
IsSamePass old new = ⊥

-- why no other pass was made
abbrev pub NoOther : Way → Way → Refusal → Type 0
NoOther (way.Outside old) (way.Outside new) why = PassRefused new why
NoOther (way.Inside old) new why = why ≡ Invalid
NoOther old new why = ⊥
