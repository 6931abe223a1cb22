-- What contracts see of a seat.
use Rattle.std.specs.Prelude.{ℕ, List, map}
use Rattle.kf_rounds.specs.declared.runner.Runner.{Runner}

-- the board of a seat
abbrev pub board_of : {B : Type 0} → Runner B → B
board_of seat = seat.board

-- the replies of a seat that are not in the output yet
abbrev pub untaken : {B : Type 0} → Runner B → List (List ℕ)
untaken seat = seat.replies

-- the board of each seat
abbrev pub boards : {B : Type 0} → List (Runner B) → List B
boards seats = map board_of seats

-- for each seat, its replies that are not in the output yet
abbrev pub untakens : {B : Type 0} → List (Runner B) → List (List (List ℕ))
untakens seats = map untaken seats
