-- The list of all events, and what is kept of it.
use Rattle.std.specs.Prelude.{◌≡◌, ℕ, ◌+◌, ◌-◌, ◌^◌, ◌<◌, ◌≤◌, List, ◌++◌, drop, length, slice_get, Some}
use Rattle.kf_uevents.specs.declared.log.Reading.{Reading}
use Rattle.kf_uevents.specs.declared.log.Reading.TheVariants.{Next, Lost, NoneYet}
use Rattle.kf_uevents.specs.declared.uevent.Uevent.{Uevent}

-- what contracts see of a list of events: how many it has room for, the number of the first one that is kept,
-- and those that are kept
pub record LogState : Type 0 where
  pub room : ℕ
  pub first : ℕ
  pub kept : List Uevent

-- these are all events that were ever reported, each at its number, and the last of them are kept, as many as
-- there is room for
pub record IsLogOf (all : List Uevent) (s : LogState) : Type 0 where
  pub begins : s.first ≡ length all - s.room
  pub ends : s.kept ≡ drop s.first all

-- how many events there were
abbrev pub told_count : LogState → ℕ
told_count s = s.first + length s.kept

-- what holds of each list of events: there are events that are all of its events, fewer than 2^64 were
-- reported, and there is a place for each event that is to be kept
pub record IsKeptLog (s : LogState) (capacity : ℕ) : Type 0 where
  pub some : (all : List Uevent) × IsLogOf all s
  pub numbered : told_count s < 2 ^ 64
  pub places : s.room ≤ capacity

-- these events were reported after all that were reported before, in this order
pub record Told (old new : LogState) (events : List Uevent) : Type 0 where
  pub room : new.room ≡ old.room
  pub told : (all : List Uevent) → IsLogOf all old → IsLogOf (all ++ events) new

-- at least 2^63 events were reported
abbrev pub IsUsedUp : LogState → Type 0
IsUsedUp s = 2 ^ 63 ≤ told_count s

-- what a reader finds at a number, if there is room for this many events. `Next` has the event of this
-- number, and the next number. `Lost` has the number at which the last events begin, as many as there is room
-- for; the reader's number is below that. `NoneYet` says that no event has the reader's number yet
abbrev pub IsReading : List Uevent → ℕ → ℕ → Reading → Type 0
IsReading all room number (Next event then) =
    (slice_get all number ≡ Some event.now) × (then ≡ number + 1)
IsReading all room number (Lost from) = (number < from) × (from ≡ length all - room)
IsReading all room number NoneYet = length all ≤ number

-- the number at which a reader goes on, if this is what it found at this number
abbrev pub next_after : ℕ → Reading → ℕ
next_after number (Next event then) = then
next_after number (Lost from) = from
next_after number NoneYet = number
