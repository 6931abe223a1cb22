-- The text of a reply, for each result that a function may return.
use Rattle.std.specs.Prelude.{ℕ, Bool, List, take, Result, Ok, Err}
use Rattle.kf_core.specs.declared.key.Key.{Key}
use Rattle.kf_core.specs.declared.refusal.Refusal.{Refusal}
use Rattle.kf_pages.specs.declared.ops.FileError.{FileError}
use Rattle.kf_tree.specs.declared.stat.Stat.{Stat}
use Rattle.kf_script.specs.ReplyText.{done_text, refusal_text, key_text, names_text, poll_text}
use Rattle.kf_replies.specs.ReplyParts.{error_text, told_text}

-- `ok`, or the refusal
abbrev pub done_told : {T : Type 0} → Result T Refusal → List ℕ
done_told (Ok _) = done_text
done_told (Err refusal) = refusal_text refusal

-- the key of a new node, or why there is none
abbrev pub key_told : Result Key FileError → List ℕ
key_told (Ok key) = key_text key
key_told (Err error) = error_text error

-- what a poll found, or the refusal
abbrev pub changed_told : Result Bool Refusal → List ℕ
changed_told (Ok changed) = poll_text changed
changed_told (Err refusal) = refusal_text refusal

-- this many bytes from the front of a buffer, or why there are none
abbrev pub read_told : Result ℕ FileError → List ℕ → List ℕ
read_told (Ok count) buffer = take count buffer
read_told (Err error) buffer = error_text error

-- what a `stat` reports, or the refusal
abbrev pub stat_told : Result Stat Refusal → List ℕ
stat_told (Ok stat) = told_text stat
stat_told (Err refusal) = refusal_text refusal

-- the names of a listing, or the refusal
abbrev pub names_told : Result (List (List ℕ)) Refusal → List ℕ
names_told (Ok names) = names_text names
names_told (Err refusal) = refusal_text refusal

-- a link's text, or the refusal
abbrev pub text_told : Result (List ℕ) Refusal → List ℕ
text_told (Ok text) = text
text_told (Err refusal) = refusal_text refusal
