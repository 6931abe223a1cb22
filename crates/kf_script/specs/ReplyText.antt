-- The texts of replies, without the newline that follows each.
use Rattle.std.specs.Prelude.{ℕ, ◌+◌, ◌/◌, ◌%◌, Bool, List, [], ◌∷◌, ◌++◌, codes, decimal, if◌then◌else◌}
use Rattle.std.specs.List.{join_with_byte}
use Rattle.kf_core.specs.declared.key.Key.{Key}
use Rattle.kf_core.specs.declared.key.Node.{Node}
use Rattle.kf_core.specs.declared.key.Node.TheVariants.{Dir, File, Link}
use Rattle.kf_core.specs.declared.refusal.Refusal.{Refusal}
use Rattle.kf_core.specs.Refusals.{number_of, name_of}
use Rattle.kf_script.specs.declared.reply.NodeState.{NodeState}
use Rattle.kf_script.specs.declared.reply.NodeState.TheVariants.{Removing, Off, Hidden, Live}

-- the reply to a command that was carried out and has nothing to report
abbrev pub done_text : List ℕ
done_text = codes "ok"

-- the reply to a line that is too long or makes no request
abbrev pub bad_line_text : List ℕ
bad_line_text = codes "err Line 22"

-- `err`, the refusal's name and its number in Linux
abbrev pub refusal_text : Refusal → List ℕ
refusal_text refusal = codes "err " ++ name_of refusal ++ codes " " ++ decimal (number_of refusal)

-- `err Callback` and the number of a callback's fault
abbrev pub fault_text : ℕ → List ℕ
fault_text number = codes "err Callback " ++ decimal number

-- `ok` and the key as SLOT.GENERATION
abbrev pub key_text : Key → List ℕ
key_text key = codes "ok " ++ decimal key.slot ++ codes "." ++ decimal key.generation

-- the reply to a poll
abbrev pub poll_text : Bool → List ℕ
poll_text changed = if changed then codes "changed" else codes "same"

-- these names, separated by single spaces
abbrev pub names_text : List (List ℕ) → List ℕ
names_text names = join_with_byte 32 names

-- ---- stat

-- the last three octal digits of a mode
abbrev pub octal : ℕ → List ℕ
octal mode = (48 + mode / 64 % 8) ∷ (48 + mode / 8 % 8) ∷ (48 + mode % 8) ∷ []

-- the reply to a `stat` up to the node's state: the node's kind, and the counts of a directory or the mode of
-- a file
abbrev pub node_text : Node → ℕ → ℕ → List ℕ
node_text Dir subdirs links =
    codes "dir subdirs=" ++ decimal subdirs ++ codes " nlink=" ++ decimal links ++ codes " "
node_text (File mode tag) subdirs links = codes "file mode=" ++ octal mode ++ codes " "
node_text (Link target) subdirs links = codes "link "

-- the end of the reply to a `stat`: the node's state
abbrev pub state_text : NodeState → List ℕ
state_text Removing = codes "removing"
state_text Off = codes "off"
state_text Hidden = codes "hidden"
state_text Live = codes "live"

-- the reply to a `stat`
abbrev pub stat_text : Node → ℕ → ℕ → NodeState → List ℕ
stat_text node subdirs links state = node_text node subdirs links ++ state_text state
