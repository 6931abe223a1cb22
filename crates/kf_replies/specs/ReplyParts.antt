-- The replies that report nodes of a tree, and what reads and writes of files returned.
use Rattle.std.specs.Prelude.{ℕ, not, List, decimal, Result, Ok, Err, if◌then◌else◌}
use Rattle.kf_pages.specs.declared.ops.FileError.{FileError}
use Rattle.kf_pages.specs.declared.ops.FileError.TheVariants.{Refused, Callback}
use Rattle.kf_tree.specs.declared.stat.Stat.{Stat}
use Rattle.kf_script.specs.declared.reply.NodeState.{NodeState}
use Rattle.kf_script.specs.declared.reply.NodeState.TheVariants.{Removing, Off, Hidden, Live}
use Rattle.kf_script.specs.ReplyText.{fault_text, refusal_text, stat_text}

-- the state of a node, as `stat` reports it
abbrev pub state_of : Stat → NodeState
state_of s =
    if s.doomed then Removing
    else (if not s.activated then Off
    else (if s.hidden then Hidden
    else Live))

-- the reply to a `stat` of a node of the tree
abbrev pub told_text : Stat → List ℕ
told_text s = stat_text s.node s.subdirs s.links (state_of s)

-- the reply to a read or a write that failed
abbrev pub error_text : FileError → List ℕ
error_text (Refused refusal) = refusal_text refusal
error_text (Callback fault) = fault_text fault.number

-- the reply to a read
abbrev pub bytes_text : Result (List ℕ) FileError → List ℕ
bytes_text (Ok bytes) = bytes
bytes_text (Err error) = error_text error

-- the reply to a write
abbrev pub count_text : Result ℕ FileError → List ℕ
count_text (Ok count) = decimal count
count_text (Err error) = error_text error
