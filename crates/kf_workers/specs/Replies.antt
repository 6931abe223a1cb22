-- What a board of the shared tree may reply to each request, whatever other boards did to the tree before and
-- meanwhile.
use Rattle.std.specs.Prelude.{ℕ, Bool, List, ◌≡◌, ◌≤◌, length, decimal, Result, IfOk, Option, None, Some}
use Rattle.kf_core.specs.declared.key.Key.{Key}
use Rattle.kf_core.specs.declared.refusal.Refusal.{Refusal}
use Rattle.kf_pages.specs.declared.ops.FileError.{FileError}
use Rattle.kf_core.specs.Tree.{Tree}
use Rattle.kf_tree.specs.Links.{HasLinkText}
use Rattle.kf_tree.specs.declared.stat.Stat.{Stat}
use Rattle.kf_script.specs.Requests.{RequestWords, make_directory, make_file, make_link, list_names, stat, read_link, read_file, write_file, poll_file, count_commands, plug, wait, request_of}
use Rattle.kf_script.specs.ReplyText.{bad_line_text, done_text}
use Rattle.kf_replies.specs.ReplyParts.{count_text}
use Rattle.kf_workers.specs.Told.{done_told, key_told, changed_told, read_told, stat_told, names_told, text_told}

-- `ok`, or a refusal
abbrev pub IsDone : List ℕ → Type 0
IsDone reply = (told : Result (Unit {0}) Refusal) × (reply ≡ done_told told)

-- the key of a new node, or why there is none
abbrev pub IsKey : List ℕ → Type 0
IsKey reply = (told : Result Key FileError) × (reply ≡ key_told told)

-- names, or a refusal
abbrev pub AreNames : List ℕ → Type 0
AreNames reply = (told : Result (List (List ℕ)) Refusal) × (reply ≡ names_told told)

-- what a `stat` reports, or a refusal
abbrev pub IsStat : List ℕ → Type 0
IsStat reply = (told : Result Stat Refusal) × (reply ≡ stat_told told)

-- a link's text in some tree, or a refusal
abbrev pub IsLinkReply : List ℕ → Type 0
IsLinkReply reply = (told : Result (List ℕ) Refusal)
    × IfOk told (λ text. (tree : Tree) × (root link : Key) × HasLinkText tree root link text)
    × (reply ≡ text_told told)

-- at most this many bytes, or why there are none
abbrev pub AreBytes : ℕ → List ℕ → Type 0
AreBytes most reply =
    (told : Result ℕ FileError) × (buffer : List ℕ) × (length buffer ≤ most) × (reply ≡ read_told told buffer)

-- the number that a store returned, or why there is none
abbrev pub IsCount : List ℕ → Type 0
IsCount reply = (told : Result ℕ FileError) × (reply ≡ count_text told)

-- what a poll reports, or a refusal
abbrev pub IsChange : List ℕ → Type 0
IsChange reply = (told : Result Bool Refusal) × (reply ≡ changed_told told)

-- a number in decimal
abbrev pub IsNumberReply : List ℕ → Type 0
IsNumberReply reply = (number : ℕ) × (reply ≡ decimal number)

-- the reply has the form that this request calls for
abbrev pub Suits : RequestWords → List ℕ → Type 0
Suits (make_directory path is_live) reply = IsKey reply
Suits (make_file path mode text) reply = IsKey reply
Suits (make_link path target) reply = IsKey reply
Suits (plug name text) reply = IsKey reply
Suits (list_names path) reply = AreNames reply
Suits (stat path) reply = IsStat reply
Suits (read_link path) reply = IsLinkReply reply
Suits (read_file file offset most) reply = AreBytes most reply
Suits (write_file file text) reply = IsCount reply
Suits (poll_file file) reply = IsChange reply
Suits count_commands reply = IsNumberReply reply
Suits wait reply = reply ≡ done_text
Suits _ reply = IsDone reply

-- the reply to a line of a seat suits the request that the line makes; if the line makes none, the reply says
-- that it is a bad line
abbrev pub AnswersTo : Option RequestWords → List ℕ → Type 0
AnswersTo None reply = reply ≡ bad_line_text
AnswersTo (Some request) reply = Suits request reply

-- the reply suits the request that this line makes
abbrev pub AnswersCommand : List ℕ → List ℕ → Type 0
AnswersCommand command reply = AnswersTo (request_of command) reply
