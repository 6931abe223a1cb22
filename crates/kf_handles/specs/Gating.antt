-- What the calls on gates and passes do to what is behind handles.
use Rattle.std.specs.Prelude.{◌≡◌, ◌⊎◌, ℕ, ℤ, Bool, pos, negsuc, if◌then◌else◌}
use Rattle.kf_core.specs.declared.refusal.Refusal.{Refusal}
use Rattle.kf_core.specs.declared.refusal.Refusal.TheVariants.{Invalid}
use Rattle.kf_words.specs.Callers.{Handle, IsSameSeat, Owed, WasTurned}
use Rattle.kf_passes.specs.declared.gate.Gate.{Gate}
use Rattle.kf_passes.specs.declared.way.Way.{Way}
use Rattle.kf_passes.specs.Gates.{IsClosed, IsOpen, IsOpenFor, IsShutStill, WasClosed}
use Rattle.kf_passes.specs.Ways.{IsKeptOut, IsOutside, IsSamePass, MadeAnother, NoOther, WasLetIn, WentOut}
use Rattle.kf_handles.specs.declared.object.Object.{Object}
use Rattle.kf_handles.specs.declared.object.Object.TheVariants as behind
use Rattle.kf_handles.specs.declared.object.Seat.{Seat}
use Rattle.kf_handles.specs.declared.object.Seat.TheVariants as seat
use Rattle.kf_handles.specs.LookUps.{error_in_c}
use Rattle.kf_handles.specs.Steps.{HasEntered, HasLeft, wake_after}

-- ---- a new gate

-- a hold was let in, and the gate keeps its call; the pass is the gate's first
abbrev pub WasGated : Seat → ℕ → Gate → Way → Type 0
WasGated (seat.Hold held) lanes gate way =
    (call : Handle) × HasEntered held.hold call × IsOpenFor lanes call gate way
WasGated other lanes gate way = ⊥

-- the same for what is behind two handles
abbrev pub MadeGate : Seat → ℕ → Object → Object → Type 0
MadeGate old lanes (behind.Gate gate) (behind.Pass way) = WasGated old lanes gate.value way
MadeGate old lanes other first = ⊥

-- there is no hold, or there is something beside it
abbrev pub IsNoHold : Seat → Object → Type 0
IsNoHold (seat.Hold held) behind.Empty = ⊥
IsNoHold other beside = Unit {0}

-- the try of a hold was refused, like that of kt_enter; or the hold was let in, and its call left again
-- because there was no memory; or there is no hold, and nothing was done
abbrev pub NotGated : Seat → Seat → ℤ → Type 0
NotGated (seat.Hold held) (seat.Hold back) why =
    ((why ≡ negsuc 18) × IsSameSeat held.hold back.hold × WasTurned held.hold back.hold)
    ⊎ ((why ≡ negsuc 11)
    × ((call : Handle) × HasEntered held.hold call × HasLeft call back.hold))
NotGated (seat.Hold held) other why = ⊥
NotGated old new why = (new ≡ old) × (why ≡ negsuc 21)

-- ---- its end

-- the gate was closed, and its call ended, so that its hold is there again; the result is 1 if a sleeper may
-- be waiting for that, else 0
abbrev pub WasShut : Object → Seat → ℤ → Type 0
WasShut (behind.Gate gate) (seat.Hold held) answer = (closed : Gate) × (due : Owed)
    × WasClosed gate.value closed held.hold due × (answer ≡ wake_after held.hold.found)
WasShut old new answer = ⊥

-- a gate that is not closed is now shut, and a look that this call made found somebody in a lane
abbrev pub StaysShut : Object → Object → Type 0
StaysShut (behind.Gate old) (behind.Gate new) = IsOpen old.value × IsShutStill old.value new.value
StaysShut old new = ⊥

-- it is not a gate, or it is a closed gate
abbrev pub IsNoGate : Object → Type 0
IsNoGate (behind.Gate gate) = IsClosed gate.value
IsNoGate other = Unit {0}

-- ---- passes

-- another pass was made from a pass, by this lane
abbrev pub MadePass : Object → ℕ → Object → Type 0
MadePass (behind.Pass old) lane (behind.Pass other) = MadeAnother old lane other
MadePass old lane other = ⊥

-- the pass is the same as before; if there is no pass, nothing changed
abbrev pub StaysPass : Object → Object → Type 0
StaysPass (behind.Pass old) (behind.Pass new) = IsSamePass old new
StaysPass old new = new ≡ old

-- why no other pass was made; Invalid if there is no pass
abbrev pub NoPass : Object → Object → Refusal → Type 0
NoPass (behind.Pass old) (behind.Pass new) why = NoOther old new why
NoPass old new why = why ≡ Invalid

-- the pass went inside
abbrev pub PassedIn : Object → Object → Type 0
PassedIn (behind.Pass old) (behind.Pass new) = WasLetIn old new
PassedIn old new = ⊥

-- the pass did not go inside, and this is the error number of the cause; if there is no pass, nothing
-- changed, and this is -EINVAL
abbrev pub NotPassed : Object → Object → ℤ → Type 0
NotPassed (behind.Pass old) (behind.Pass new) number =
    (why : Refusal) × IsKeptOut old new why × (number ≡ error_in_c why)
NotPassed old new number = (new ≡ old) × (number ≡ negsuc 21)

-- the pass went out; the result is 1 if a look after that found the gate shut, else 0
abbrev pub PassedOut : Object → Object → ℤ → Type 0
PassedOut (behind.Pass old) (behind.Pass new) answer =
    (shut : Bool) × WentOut old new shut × (answer ≡ pos (if shut then 1 else 0))
PassedOut old new answer = ⊥

-- it is not a pass that is inside
abbrev pub IsNotWithin : Object → Type 0
IsNotWithin (behind.Pass way) = IsOutside way
IsNotWithin other = Unit {0}
