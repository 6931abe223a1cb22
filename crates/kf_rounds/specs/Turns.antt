-- The replies to the lines of a script that several seats run.
use Rattle.std.specs.Prelude.{ℕ, ◌==◌, Bool, List, [], ◌∷◌, ◌++◌, ◌≡◌, flat_map, map, All, get_or, set, if◌then◌else◌}
use Rattle.kf_script.specs.Answers.{Step, AnswersRequest}
use Rattle.kf_script.specs.Requests.{request_of}
use Rattle.kf_script.specs.ReplyText.{bad_line_text, done_text}
use Rattle.kf_rounds.specs.Kinds.{KindOfLine, bad, ends_round, of_seat, commands_of}

-- what one line is for, and its reply
pub record Turn : Type 0 where
  pub kind : KindOfLine
  pub reply : List ℕ

-- what the line of this turn is for
abbrev pub kind_in : Turn → KindOfLine
kind_in turn = turn.kind

-- the reply with its newline
abbrev pub reply_line : Turn → List ℕ
reply_line turn = turn.reply ++ 10 ∷ []

-- the replies as the output has them
abbrev pub text : List Turn → List ℕ
text turns = flat_map reply_line turns

-- the reply to a bad line, or to the end of a round, is a fixed text; the reply to a command may be any
abbrev pub IsFixed : KindOfLine → List ℕ → Type 0
IsFixed bad reply = reply ≡ bad_line_text
IsFixed ends_round reply = reply ≡ done_text
IsFixed (of_seat seat command) reply = Unit {0}

-- if the turn's line belongs to no seat, the turn has the fixed reply of such a line
abbrev pub HasFixed : Turn → Type 0
HasFixed turn = IsFixed turn.kind turn.reply

-- the reply to a line, if the line belongs to this seat
abbrev pub own_reply : ℕ → KindOfLine → List ℕ → List (List ℕ)
own_reply who bad reply = []
own_reply who ends_round reply = []
own_reply who (of_seat seat command) reply = if seat == who then reply ∷ [] else []

-- the reply of a turn, if its line belongs to this seat
abbrev pub reply_of : ℕ → Turn → List (List ℕ)
reply_of who turn = own_reply who turn.kind turn.reply

-- the replies to the lines of one seat, in the order of the lines
abbrev pub replies_of : ℕ → List Turn → List (List ℕ)
replies_of who turns = flat_map (reply_of who) turns

-- a board replied to these commands, one after the other, with these replies, and is now as the last command
-- left it; or the last replies are missing (memory ran out), and then nothing is said of the board now
abbrev pub Tells : {Board : Type 0} → Step Board → Board → List (List ℕ) → List (List ℕ) → Board → Type 0
Tells step before [] [] now = now ≡ before
Tells step before [] (reply ∷ replies) now = ⊥
Tells step before (command ∷ commands) [] now = Unit {0}
Tells {Board} step before (command ∷ commands) (reply ∷ replies) now =
    (next : Board) × (starved : Bool)
    × AnswersRequest step before (request_of command) starved reply next
    × Tells step next commands replies now

-- if there is a command, the board replied to it and the reply was added; else nothing changed
abbrev pub Adds : {Board : Type 0} → Step Board → List (List ℕ) → Board → List (List ℕ) → Board
    → List (List ℕ) → Type 0
Adds step [] before old now new = (now ≡ before) × (new ≡ old)
Adds step (command ∷ commands) before old now new =
    (reply : List ℕ) × (starved : Bool)
    × AnswersRequest step before (request_of command) starved reply now × (new ≡ old ++ reply ∷ [])

-- the replies of each seat are its own board's replies to its own commands; a seat's number is its place in
-- the lists
abbrev pub EachTells : {Board : Type 0} → Step Board → List KindOfLine → List Board → List (List (List ℕ))
    → List Board → Type 0
EachTells {Board} step kinds before said now =
    (who : ℕ) (d : Board)
    → Tells step (get_or before who d) (commands_of who kinds) (get_or said who []) (get_or now who d)

-- the reply to a line was added to the output: if the line belongs to a seat, this is the seat's next reply,
-- else the fixed one
abbrev pub Puts : KindOfLine → List (List (List ℕ)) → List (List (List ℕ)) → List ℕ → List ℕ → Type 0
Puts bad said said' out out' = (said' ≡ said) × (out' ≡ out ++ bad_line_text ++ 10 ∷ [])
Puts ends_round said said' out out' = (said' ≡ said) × (out' ≡ out ++ done_text ++ 10 ∷ [])
Puts (of_seat seat command) said said' out out' =
    (reply : List ℕ) × (later : List (List ℕ)) × (get_or said seat [] ≡ reply ∷ later)
    × (said' ≡ set said seat later) × (out' ≡ out ++ reply ++ 10 ∷ [])

-- the replies to lines of these kinds were added to the output; the reply to a line of a seat is the seat's
-- next one, and every other reply is the fixed one
pub record PutOut (kinds : List KindOfLine) (said said' : List (List (List ℕ))) (out out' : List ℕ)
    : Type 0 where
  pub turns : List Turn
  pub kinds_are : map kind_in turns ≡ kinds
  pub fixed : All HasFixed turns
  pub dealt : (who : ℕ) → get_or said who [] ≡ replies_of who turns ++ get_or said' who []
  pub bytes_are : out' ≡ out ++ text turns

-- the replies to lines of these kinds, one each, in their order, follow the old bytes; the replies to the
-- lines of a seat are its board's replies to these lines, one after the other
pub record Replied {Board : Type 0} (step : Step Board) (kinds : List KindOfLine) (before now : List Board)
    (old new : List ℕ) : Type 0 where
  pub turns : List Turn
  pub kinds_are : map kind_in turns ≡ kinds
  pub fixed : All HasFixed turns
  pub ran : (who : ℕ) (d : Board)
      → Tells step (get_or before who d) (commands_of who kinds) (replies_of who turns) (get_or now who d)
  pub bytes_are : new ≡ old ++ text turns
