-- The replies to the lines of a script that an owner and workers run.
use Rattle.std.specs.Prelude.{ℕ, List, ◌≡◌, map, All}
use Rattle.kf_script.specs.ReplyText.{bad_line_text, done_text}
use Rattle.kf_rounds.specs.Kinds.{KindOfLine, bad, ends_round, of_seat, kinds_by}
use Rattle.kf_rounds.specs.Turns.{Turn, kind_in, text}
use Rattle.kf_workers.specs.Replies.{AnswersCommand}

-- this may be the reply to a line of this kind
abbrev pub MayReply : KindOfLine → List ℕ → Type 0
MayReply bad reply = reply ≡ bad_line_text
MayReply ends_round reply = reply ≡ done_text
MayReply (of_seat seat command) reply = AnswersCommand command reply

-- the turn's reply is one that a line of its kind may get
abbrev pub IsTurn : Turn → Type 0
IsTurn turn = MayReply turn.kind turn.reply

-- these bytes are the replies to these lines: one for each line, in their order, and each of a form that its
-- line may get
pub record RepliedInForm (workers : ℕ) (lines : List (List ℕ)) (bytes : List ℕ) : Type 0 where
  pub turns : List Turn
  pub kinds_are : map kind_in turns ≡ kinds_by workers lines
  pub each : All IsTurn turns
  pub bytes_are : bytes ≡ text turns
