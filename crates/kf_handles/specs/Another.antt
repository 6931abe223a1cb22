-- What making a second hold from a hold does to what is behind two handles.
use Rattle.std.specs.Prelude.{◌≡◌, ℤ, negsuc}
use Rattle.kf_core.specs.declared.refusal.Refusal.{Refusal}
use Rattle.kf_words.specs.Another.{AnotherRefused, IsAnother, Missed, StaysAs, WasCountedFor}
use Rattle.kf_words.specs.Callers.{Handle, IsSameSeat, seat_view}
use Rattle.kf_words.specs.declared.sight.StepKind.TheVariants.{SeesHolds as sees_holds}
use Rattle.kf_handles.specs.declared.object.Seat.{Seat}
use Rattle.kf_handles.specs.declared.object.Seat.TheVariants as seat
use Rattle.kf_handles.specs.LookUps.{error_in_c}

-- one more hold of the hold's node was counted, and got a seat; the first hold is as before, except for its
-- steps and what it has seen
abbrev pub CountedAnother : Handle → Handle → Handle → Type 0
CountedAnother hold after other = IsSameSeat hold after × StaysAs hold after × IsAnother hold other
    × WasCountedFor (seat_view hold) (seat_view after) other.seen

-- the same for the seats behind two handles
abbrev pub GaveAnother : Seat → Seat → Seat → Type 0
GaveAnother (seat.Hold held) (seat.Hold after) (seat.Hold other) =
    CountedAnother held.hold after.hold other.hold
GaveAnother old new other = ⊥

-- a second hold was refused after 1 to 64 steps; the first hold is as before, except for its steps and what
-- it has seen; if there is no hold, nothing changed
abbrev pub GaveNoOther : Seat → Seat → Type 0
GaveNoOther (seat.Hold held) (seat.Hold after) = IsSameSeat held.hold after.hold
    × StaysAs held.hold after.hold × Missed sees_holds 1 64 (seat_view held.hold) (seat_view after.hold)
GaveNoOther old new = new ≡ old

-- the error number of the refusal, which follows from what the hold's last step found; -EINVAL if there is no
-- hold
abbrev pub WhyNoOther : Seat → Seat → ℤ → Type 0
WhyNoOther (seat.Hold held) (seat.Hold after) number =
    (why : Refusal) × AnotherRefused held.hold after.hold why × (number ≡ error_in_c why)
WhyNoOther old new number = number ≡ negsuc 21
