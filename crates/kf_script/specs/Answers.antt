-- The replies to the lines of a script.
use Rattle.std.specs.Prelude.{ℕ, Bool, false, List, [], ◌∷◌, ◌++◌, ◌≡◌, flat_map, Option, Some, None}
use Rattle.kf_script.specs.Requests.{RequestWords, request_of}
use Rattle.kf_script.specs.ReplyText.{bad_line_text}

-- one line and its reply. `starved` says whether memory was lacking for it
pub record Turn : Type 0 where
  pub line : List ℕ
  pub starved : Bool
  pub reply : List ℕ

-- the line that got its reply in this turn
abbrev pub line_of : Turn → List ℕ
line_of turn = turn.line

-- what a board may reply to a request: a relation between the board before, the request, whether memory was
-- lacking, the reply, and the board after
abbrev pub Step : Type 0 → Type 1
Step Board = Board → RequestWords → Bool → List ℕ → Board → Type 0

-- a request gets a reply as the board's relation says. A line that makes no request gets the reply of a bad
-- line, changes nothing, and lacks no memory
abbrev pub AnswersRequest : {Board : Type 0} → Step Board → Board → Option RequestWords → Bool → List ℕ
    → Board → Type 0
AnswersRequest step before None starved reply now =
    (starved ≡ false) × (reply ≡ bad_line_text) × (now ≡ before)
AnswersRequest step before (Some request) starved reply now = step before request starved reply now

-- the lines of these turns get their replies in order, and lead from the first board to the second
abbrev pub Answers : {Board : Type 0} → Step Board → Board → List Turn → Board → Type 0
Answers step before [] now = now ≡ before
Answers {Board} step before (turn ∷ turns) now =
    (next : Board) × AnswersRequest step before (request_of turn.line) turn.starved turn.reply next
    × Answers step next turns now

-- the reply of a turn, and a newline
abbrev pub reply_line : Turn → List ℕ
reply_line turn = turn.reply ++ 10 ∷ []

-- the replies of these turns as they are written: one after another, each with a newline
abbrev pub text : List Turn → List ℕ
text turns = flat_map reply_line turns
