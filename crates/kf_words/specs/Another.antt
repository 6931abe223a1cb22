-- What it means to make another hold from a hold.
use Rattle.std.specs.Prelude.{◌≡◌, ◌≢◌, ◌≤◌, ℕ, zero, suc, ◌+◌, []}
use Rattle.atomic_table.specs.declared.shared.Seat.{Seat}
use Rattle.kf_core.specs.declared.caller.Phase.TheVariants.{Still}
use Rattle.kf_core.specs.declared.refusal.Refusal.{Refusal}
use Rattle.kf_core.specs.declared.refusal.Refusal.TheVariants.{NoEntry, NoMemory, Access, Busy, Exists, NoDevice, NotDir, IsDir, Invalid, TooManyHolds, NoSpace, NameTooLong}
use Rattle.kf_words.specs.declared.sight.Seen.{Seen}
use Rattle.kf_words.specs.declared.sight.Sight.{Sight}
use Rattle.kf_words.specs.declared.view.View.TheVariants as seat
use Rattle.kf_words.specs.Layout.{holds_in, HasSpare}
use Rattle.kf_words.specs.Steps.{plain, new_hold}
use Rattle.kf_words.specs.Callers.{Handle, CallerSight, seat_view}
use Rattle.kf_words.specs.TableSteps.{StepKind, sees_holds}
use Rattle.kf_words.specs.Made.{WasMade, WereMade, WasDoubled}

-- the hold's phase and its number of tries are as they were, and so is whether it has a try to undo
pub record StaysAs (old new : Handle) : Type 0 where
  pub phase : new.phase ≡ old.phase
  pub tries : new.tries ≡ old.tries
  pub undo_due : new.undo_due ≡ old.undo_due

-- a seat of the same table, on the same key, which has made no step
abbrev pub IsShared : Handle → Seat (Unit {0}) Sight → Type 0
IsShared h token = (token.table_id ≡ h.table) × (plain token.me ≡ (seat.Caller (new_hold h.key), []))

-- another hold of the same key, which has made no step
pub record IsAnother (hold other : Handle) : Type 0 where
  pub table : other.table ≡ hold.table
  pub key : other.key ≡ hold.key
  pub node : other.node ≡ hold.node
  pub still : other.phase ≡ Still
  pub steps : other.steps ≡ 0

-- this seat made steps of this kind, at least the first number of them and at most the second, and no other
-- step
abbrev pub Missed : (ℕ → StepKind) → ℕ → ℕ → CallerSight → CallerSight → Type 0
Missed kind least most before after =
    (count : ℕ) × (least ≤ count) × (count ≤ most) × WereMade kind count before after

-- after at most 63 steps that counted nothing, one step counted one more hold, and a new seat got it
abbrev pub WasCountedFor : CallerSight → CallerSight → Seen → Type 0
WasCountedFor before after seen =
    (missed : CallerSight) × Missed sees_holds 0 63 before missed × WasDoubled missed after seen

-- this seat made this many steps of this kind, and each of them except the first found a word that differs
-- from the word that the step before it found
abbrev pub WereOutrun : (ℕ → StepKind) → ℕ → CallerSight → CallerSight → Type 0
WereOutrun kind zero before after = after ≡ before
WereOutrun kind (suc count) before after = (between : CallerSight) × WereOutrun kind count before between
    × WasMade kind between after × (count ≢ 0 → after.view.found ≢ between.view.found)

-- the last step found a word without a spare place
abbrev pub HasNoSpare : Handle → Type 0
HasNoSpare h = h.seen.opening.holds ≤ holds_in h.found + 1

-- why another hold is refused. With TooManyHolds, the last step found a word without a spare place. With
-- NoMemory, it found a word with one. With Busy, 64 steps were made, and others changed the word between each
-- of them and the next. There is no other refusal
abbrev pub AnotherRefused : Handle → Handle → Refusal → Type 0
AnotherRefused before after TooManyHolds = HasNoSpare after
AnotherRefused before after NoMemory = HasSpare after.seen.opening.holds after.found
AnotherRefused before after Busy = WereOutrun sees_holds 64 (seat_view before) (seat_view after)
AnotherRefused before after NoEntry = ⊥
AnotherRefused before after Access = ⊥
AnotherRefused before after Exists = ⊥
AnotherRefused before after NoDevice = ⊥
AnotherRefused before after NotDir = ⊥
AnotherRefused before after IsDir = ⊥
AnotherRefused before after Invalid = ⊥
AnotherRefused before after NoSpace = ⊥
AnotherRefused before after NameTooLong = ⊥
