-- What the steps of a hold and a call do to what is behind a handle.
use Rattle.std.specs.Prelude.{◌≡◌, ◌≢◌, ◌⊎◌, ◌-◌, ◌||◌, ℕ, ℤ, pos, negsuc, Bool, false, if◌then◌else◌}
use Rattle.kf_core.specs.declared.caller.Phase.TheVariants.{Running, Broken}
use Rattle.kf_words.specs.Layout.{wants_wake}
use Rattle.kf_words.specs.Callers.{Handle, IsSameSeat, Entered, WasTurned, seat_view}
use Rattle.kf_words.specs.Callers.{WasLeft as LeftHandle, WasBroken as BrokenHandle, WasRestored as RestoredHandle}
use Rattle.kf_words.specs.Made.{WasALeave, WasABreak, WasARestore, WasLetInLive, GavePlaceBack}
use Rattle.kf_handles.specs.declared.object.Seat.{Seat}
use Rattle.kf_handles.specs.declared.object.Seat.TheVariants as seat

-- a hold was let in by one try, while its node was live, and is now a running call of the same seat
abbrev pub HasEntered : Handle → Handle → Type 0
HasEntered hold call =
    IsSameSeat hold call × Entered hold call × WasLetInLive (seat_view hold) (seat_view call)

-- a hold became such a call
abbrev pub WasEntered : Seat → Seat → Type 0
WasEntered (seat.Hold held) (seat.Call inside) = HasEntered held.hold inside.call
WasEntered old new = ⊥

-- a hold became such a call, for a show
abbrev pub WasEnteredToShow : Seat → Seat → Type 0
WasEnteredToShow (seat.Hold held) (seat.Show inside) = HasEntered held.hold inside.call
WasEnteredToShow old new = ⊥

-- a hold's try found that its node is not live, and was undone; if there is no hold, nothing was done
abbrev pub WasRefused : Seat → Seat → Type 0
WasRefused (seat.Hold held) (seat.Hold back) =
    IsSameSeat held.hold back.hold × WasTurned held.hold back.hold
WasRefused old new = new ≡ old

-- the error number of a refused try: -ENODEV if there is a hold, else -EINVAL
abbrev pub enter_error : Seat → ℤ
enter_error (seat.Hold held) = negsuc 18
enter_error other = negsuc 21

-- one step ended a call
abbrev pub HasLeft : Handle → Handle → Type 0
HasLeft call hold = IsSameSeat call hold × LeftHandle call hold × WasALeave (seat_view call) (seat_view hold)

-- a call was ended like this, and its hold is there again
abbrev pub WasLeft : Seat → Seat → Type 0
WasLeft (seat.Call inside) (seat.Hold held) = HasLeft inside.call held.hold
WasLeft (seat.Show inside) (seat.Hold held) = HasLeft inside.call held.hold
WasLeft old new = ⊥

-- one step gave up the reference of a call
abbrev pub HasBroken : Handle → Handle → Type 0
HasBroken call broken = IsSameSeat call broken × BrokenHandle call broken
    × WasABreak (seat_view call) (seat_view broken)

-- a call gave up its reference like this
abbrev pub WasBroken : Seat → Seat → Type 0
WasBroken (seat.Call inside) (seat.Call broken) = HasBroken inside.call broken.call
WasBroken (seat.Show inside) (seat.Show broken) = HasBroken inside.call broken.call
WasBroken old new = ⊥

-- one step took a reference for the call again
abbrev pub HasRestored : Handle → Handle → Type 0
HasRestored broken call = IsSameSeat broken call × RestoredHandle broken call
    × WasARestore (seat_view broken) (seat_view call)

-- a call took a reference again like this
abbrev pub WasRestored : Seat → Seat → Type 0
WasRestored (seat.Call broken) (seat.Call inside) = HasRestored broken.call inside.call
WasRestored (seat.Show broken) (seat.Show inside) = HasRestored broken.call inside.call
WasRestored old new = ⊥

-- it is not a call, or a call that gave up its reference
abbrev pub HasNoReference : Seat → Type 0
HasNoReference (seat.Call inside) = inside.call.phase ≡ Broken
HasNoReference (seat.Show inside) = inside.call.phase ≡ Broken
HasNoReference other = Unit {0}

-- it is not a call, or a call that no longer has the reference with which it entered
abbrev pub IsNotRunning : Seat → Type 0
IsNotRunning (seat.Call inside) = inside.call.phase ≢ Running
IsNotRunning (seat.Show inside) = inside.call.phase ≢ Running
IsNotRunning other = Unit {0}

-- it is not a call, or a call that is not Broken: it did not give up its reference, or took one again
abbrev pub IsNotBroken : Seat → Type 0
IsNotBroken (seat.Call inside) = inside.call.phase ≢ Broken
IsNotBroken (seat.Show inside) = inside.call.phase ≢ Broken
IsNotBroken other = Unit {0}

-- for a step that took one user off the word that it found: 1 if a sleeper may be waiting for the word that
-- it left, else 0
abbrev pub wake_after : ℕ → ℤ
wake_after found = pos (if wants_wake (found - 1) then 1 else 0)

-- the word that the last step of a hold or call found; 0 if there is neither
abbrev pub found_by : Seat → ℕ
found_by (seat.Hold held) = held.hold.found
found_by (seat.Call inside) = inside.call.found
found_by (seat.Show inside) = inside.call.found
found_by seat.None = 0

-- the same for the last step of a hold or call
abbrev pub wake_of : Seat → ℤ
wake_of at = wake_after (found_by at)

-- one step released a hold; a sleeper may be waiting for its place if the step found the slot with the
-- greatest number of holds
abbrev pub HasReleased : Handle → Bool → Type 0
HasReleased hold wanted = GavePlaceBack (seat_view hold) wanted

-- the call took a reference again, if it had given its reference up; then one step ended the call, and a
-- later step released its hold; a sleeper may be waiting for one of these two steps, or not
abbrev pub HasEnded : Handle → Bool → Type 0
HasEnded call wanted = (running : Handle) × ((running ≡ call) ⊎ HasRestored call running)
    × (hold : Handle) × HasLeft running hold × (was_full : Bool) × HasReleased hold was_full
    × (wanted ≡ (wants_wake (hold.found - 1) || was_full))

-- the same for a hold or a call that was dropped; nobody waits if there was neither
abbrev pub EndOwed : Seat → Bool → Type 0
EndOwed (seat.Hold held) wanted = HasReleased held.hold wanted
EndOwed (seat.Call inside) wanted = HasEnded inside.call wanted
EndOwed (seat.Show inside) wanted = HasEnded inside.call wanted
EndOwed seat.None wanted = wanted ≡ false

-- it is 1 if a wake is owed to sleepers, else 0
abbrev pub WakeOwed : Seat → ℤ → Type 0
WakeOwed at answer = (wanted : Bool) × EndOwed at wanted × (answer ≡ pos (if wanted then 1 else 0))
