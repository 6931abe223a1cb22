-- What each line of a script is for, and which seat it belongs to.
use Rattle.std.specs.Prelude.{ℕ, ◌+◌, ◌-◌, ◌*◌, Bool, true, false, List, [], ◌∷◌, nat_le, ◌==◌, ◌&&◌, length, flat_map, map, codes, Option, Some, None, if◌then◌else◌}
use Rattle.std.specs.Str.{bytes_eq}
use Rattle.kf_script.specs.Lines.{line_limit}
use Rattle.kf_script.specs.Requests.{is_digit, first_word, rest}

-- what a line is for: nothing, if it is not lawful; the end of a round; or a command of one seat (0 is the
-- owner's)
pub data KindOfLine : Type 0 where
  bad : KindOfLine
  ends_round : KindOfLine
  of_seat : (seat : ℕ) (command : List ℕ) → KindOfLine

-- a worker's number, 1 to this many, in decimal without leading zeros, and with at most two digits
abbrev pub worker_of : ℕ → List ℕ → Option ℕ
worker_of most (a ∷ []) =
    if nat_le 49 a && nat_le a 57 && nat_le (a - 48) most then Some (a - 48) else None
worker_of most (a ∷ b ∷ []) =
    if nat_le 49 a && nat_le a 57 && is_digit b && nat_le (10 * (a - 48) + (b - 48)) most
    then Some (10 * (a - 48) + (b - 48)) else None
worker_of most _ = None

-- the kind of a line that begins with `@`: a command of this worker; bad if there is no worker, or if the
-- command is `wait`
abbrev pub kind_for : Option ℕ → List ℕ → KindOfLine
kind_for None command = bad
kind_for (Some worker) command = if bytes_eq command (codes "wait") then bad else of_seat worker command

-- the kind of a line by what follows its `@`: the worker's number, one space, and the command
abbrev pub worker_line : ℕ → List ℕ → KindOfLine
worker_line workers words = kind_for (worker_of workers (first_word words)) (rest words)

-- the kind of a line that is not too long: a worker's if it begins with `@`, the end of a round if it is
-- `wait`, else the owner's; an empty line is bad
abbrev pub short_line : ℕ → List ℕ → KindOfLine
short_line workers [] = bad
short_line workers (byte ∷ line) =
    if byte == 64 then worker_line workers line
    else (if bytes_eq (byte ∷ line) (codes "wait") then ends_round
    else of_seat 0 (byte ∷ line))

-- what a line is for, with this many workers
abbrev pub kind_by : ℕ → List ℕ → KindOfLine
kind_by workers line = if nat_le (length line) line_limit then short_line workers line else bad

-- whether the line ends its round
abbrev pub is_end : KindOfLine → Bool
is_end ends_round = true
is_end _ = false

-- the seat of a line: 0 for the owner, and also if the line belongs to no seat
abbrev pub seat_in : KindOfLine → ℕ
seat_in bad = 0
seat_in ends_round = 0
seat_in (of_seat seat command) = seat

-- the line's command, without its `@W`; empty if the line belongs to no seat
abbrev pub command_in : KindOfLine → List ℕ
command_in bad = []
command_in ends_round = []
command_in (of_seat seat command) = command

-- the command of a line, if the line belongs to this seat
abbrev pub own_command : ℕ → KindOfLine → List (List ℕ)
own_command who bad = []
own_command who ends_round = []
own_command who (of_seat seat command) = if seat == who then command ∷ [] else []

-- the commands of one seat, in the order of the lines
abbrev pub commands_of : ℕ → List KindOfLine → List (List ℕ)
commands_of who kinds = flat_map (own_command who) kinds

-- what each line is for, with this many workers
abbrev pub kinds_by : ℕ → List (List ℕ) → List KindOfLine
kinds_by workers lines = map (kind_by workers) lines
