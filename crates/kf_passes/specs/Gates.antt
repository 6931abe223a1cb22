-- What becomes of a gate that is opened once, and of the call that it keeps.
use Rattle.std.specs.Prelude.{◌≡◌, ◌+◌, ℕ, false, true}
use Rattle.kf_gates.specs.Laws.{IsOver}
use Rattle.kf_gates.specs.States.{ClosedState, FoundUser, KeeperState, KeepsOn, last_opening, opening_of}
use Rattle.kf_words.specs.Callers.{Handle, IsSameSeat, Owed, WasLeft, owed, seat_view}
use Rattle.kf_words.specs.Made.{WasALeave}
use Rattle.kf_passes.specs.declared.gate.Gate.{Gate}
use Rattle.kf_passes.specs.declared.gate.Gate.TheVariants as gate
use Rattle.kf_passes.specs.declared.entered.Entered.{Entered}
use Rattle.kf_passes.specs.declared.way.Way.{Way}
use Rattle.kf_passes.specs.declared.way.Way.TheVariants as way

-- somebody may be inside, or come in
abbrev pub IsOpen : Gate → Type 0
IsOpen (gate.Open keeping) = Unit {0}
IsOpen (gate.Closed closed) = ⊥

-- nobody is inside, and nobody comes in
abbrev pub IsClosed : Gate → Type 0
IsClosed (gate.Open keeping) = ⊥
IsClosed (gate.Closed closed) = Unit {0}

-- a closed gate was opened under the next number, and keeps this call
abbrev pub WasOpened : Gate → Entered → Gate → Type 0
WasOpened (gate.Closed closed) kept (gate.Open keeping) = (keeping.keeper.kept ≡ kept)
    × (keeping.keeper.seat ≡ closed.seat) × (keeping.keeper.plan.shut ≡ false)
    × (keeping.keeper.plan.number ≡ closed.plan.number + 1)
WasOpened old kept new = ⊥

-- the gate has this number of lanes, is open for the first time and keeps the call; the pass is the gate's,
-- by lane 0
abbrev pub IsOpenFor : ℕ → Handle → Gate → Way → Type 0
IsOpenFor lanes call (gate.Open keeping) (way.Outside pass) = (keeping.keeper.kept.call ≡ call)
    × (keeping.keeper.plan.shut ≡ false) × (keeping.keeper.plan.number ≡ 1)
    × (keeping.keeper.seat.gate.lanes ≡ lanes) × (pass.seat.gate ≡ keeping.keeper.seat.gate) × (pass.lane ≡ 0)
IsOpenFor lanes call other first = ⊥

-- the gate was shut, and each lane was seen empty since. After that, one step ended the call that the gate
-- kept. The call's hold is left, and this wake is owed
abbrev pub HasClosed : KeeperState Entered → ClosedState → Handle → Owed → Type 0
HasClosed keeper closed hold due = (last_opening closed ≡ opening_of keeper)
    × IsOver keeper.seat.gate.lanes closed.plan × IsSameSeat keeper.kept.call hold
    × WasLeft keeper.kept.call hold × WasALeave (seat_view keeper.kept.call) (seat_view hold)
    × (due ≡ owed hold)

-- the gate is shut and keeps its call. The keeper looked at lanes, and its last look found a caller counted
-- in the next lane
abbrev pub HasShut : KeeperState Entered → KeeperState Entered → Type 0
HasShut old new = KeepsOn old new × (new.plan.shut ≡ true) × FoundUser old new

-- an open gate was closed, as in `HasClosed`
abbrev pub WasClosed : Gate → Gate → Handle → Owed → Type 0
WasClosed (gate.Open keeping) (gate.Closed closed) hold due = HasClosed keeping.keeper closed hold due
WasClosed old new hold due = ⊥

-- an open gate is shut, as in `HasShut`; a closed gate stays as it is
abbrev pub IsShutStill : Gate → Gate → Type 0
IsShutStill (gate.Open old) (gate.Open new) = HasShut old.keeper new.keeper
IsShutStill (gate.Closed old) (gate.Closed new) = new ≡ old
IsShutStill old new = ⊥
