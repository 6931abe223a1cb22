-- What contracts see of the callers of a hot value, and of its owner.
use Rattle.std.specs.Prelude.{◌≡◌, ℕ, List, Option, Some, false}
use Rattle.kf_core.specs.declared.key.Key.{Key}
use Rattle.kf_gates.specs.States.{ClosedState, KeeperState, PassState, last_opening, opening_of}
use Rattle.kf_gates.specs.Laws.{IsOver}

-- the path of the value, the number under which its gate was opened, and the pass, which is present between
-- calls
pub record HotCallerState : Type 0 where
  pub path : List ℕ
  pub number : ℕ
  pub pass : Option PassState

-- the keeper of the gate, which itself keeps no value; the key of the value's node; the path of the value;
-- and the value
pub record HotState (T : Type 0) : Type 0 where
  pub keeper : KeeperState (Unit {0})
  pub key : Key
  pub path : List ℕ
  pub value : T

-- the gate has this many lanes, and is open
pub record IsOpen (lanes : ℕ) (keeper : KeeperState (Unit {0})) : Type 0 where
  pub lanes_are : keeper.seat.gate.lanes ≡ lanes
  pub unshut : keeper.plan.shut ≡ false

-- a closed gate was returned: it is the keeper's gate, closed in the keeper's opening, and each of its lanes
-- was seen empty
pub record WasClosed (keeper : KeeperState (Unit {0})) (gate : Option ClosedState) : Type 0 where
  pub closed : ClosedState
  pub there : gate ≡ Some closed
  pub same : last_opening closed ≡ opening_of keeper
  pub over : IsOver keeper.seat.gate.lanes closed.plan
