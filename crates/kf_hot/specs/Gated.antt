-- The gates of a removal, each of which keeps a call.
use Rattle.std.specs.Prelude.{◌≡◌, true, List, map, All}
use Rattle.kf_core.specs.Phases.{has_reference}
use Rattle.kf_gates.specs.States.{KeeperState, ClosedState, Opening, opening_of, last_opening}
use Rattle.kf_words.specs.Callers.{Handle}

-- the calls that these gates keep
abbrev pub kept_by : List (KeeperState Handle) → List Handle
kept_by gates = map (λ gate. gate.kept) gates

-- the openings of these gates; and, below, the last openings of closed gates
abbrev pub openings : List (KeeperState Handle) → List Opening
openings gates = map opening_of gates

abbrev pub last_openings : List ClosedState → List Opening
last_openings gates = map last_opening gates

-- each call has its reference
abbrev pub HaveReference : List Handle → Type 0
HaveReference calls = All (λ call. has_reference call.phase ≡ true) calls

-- each gate is shut
abbrev pub AreShut : List (KeeperState Handle) → Type 0
AreShut gates = All (λ gate. gate.plan.shut ≡ true) gates
