-- How the parts of a plain board fit together.
use Rattle.std.specs.Prelude.{◌≡◌, ℕ, ◌≤◌, List, length, map, slice_get, Option, Some, None, Ok}
use Rattle.std.specs.Option.{option_map}
use Rattle.kf_core.specs.Limits.{most_slots}
use Rattle.kf_core.specs.declared.key.Node.{Node}
use Rattle.kf_core.specs.declared.key.Node.TheVariants.{Dir, File, Link}
use Rattle.kf_core.specs.declared.caller.Caller.{Caller}
use Rattle.kf_core.specs.declared.records.Record.{Record}
use Rattle.kf_plain.specs.declared.nodes.visits.BoardFile.{BoardFile}
use Rattle.kf_plain.specs.declared.nodes.hiding.BoardToken.{BoardToken}
use Rattle.kf_core.specs.declared.key.Key.{Key}
use Rattle.kf_core.specs.Tree.{record_at}
use Rattle.kf_pages.specs.declared.contents.Want.{Want}
use Rattle.kf_pages.specs.Files.{tag_of, new_file}
use Rattle.kf_plain.specs.PlainFiles.{opened_node}
use Rattle.kf_world.specs.Bounded.{hold_count}
use Rattle.kf_plain.specs.Nodes.{Nodes, Waits, AllIdle, hidden_on}
use Rattle.kf_plain.specs.Plain.{Plain, OpenPlainFile, count_on}

-- an open file, without the number of its caller
abbrev pub plain_file : BoardFile → OpenPlainFile
plain_file f = record { key = f.key; kept = f.file.state }

-- what a script can see of the open files
abbrev pub plain_files : List (Option BoardFile) → List (Option OpenPlainFile)
plain_files files = map (option_map plain_file) files

-- a token, without the number of its caller
abbrev pub plain_token : BoardToken → Key
plain_token t = t.key

-- what a script can see of the tokens
abbrev pub plain_tokens : List (Option BoardToken) → List (Option Key)
plain_tokens tokens = map (option_map plain_token) tokens

-- the board that these parts make
abbrev pub plain_of : Nodes → List ℕ → List (List ℕ) → List (Option BoardFile) → List (Option BoardToken)
    → Plain
plain_of n events texts files tokens = record {
  log = n.log;
  last = n.last;
  limit = n.limit;
  events = events;
  texts = texts;
  files = plain_files files;
  tokens = plain_tokens tokens;
}

-- at most this many bytes of text are buffered
abbrev pub IsShort : Option (List ℕ) → Type 0
IsShort None = Unit {0}
IsShort (Some text) = length text ≤ 4095

-- the file's caller waits on the file's key, the file's tag is the slot of this key, and its text is short
pub record IsHeldFile (callers : List Caller) (f : BoardFile) : Type 0 where
  pub waits : Waits callers f.file.hold f.key
  pub tag : f.file.tag ≡ f.key.slot
  pub short : IsShort f.file.state.text

-- the caller of the token hides the token's key, and this key is in the slot
pub record IsHeldToken (callers : List Caller) (slot : ℕ) (t : BoardToken) : Type 0 where
  pub hides : slice_get callers t.hold ≡ Some (hidden_on t.key)
  pub in_slot : t.key.slot ≡ slot

-- a file's tag is the number of its slot
abbrev pub IsTaggedNode : ℕ → Node → Type 0
IsTaggedNode slot Dir = Unit {0}
IsTaggedNode slot (File mode tag) = tag ≡ slot
IsTaggedNode slot (Link target) = Unit {0}

-- the record, if there is one and it is that of a file, is tagged with its slot
abbrev pub IsTagged : Option Record → Type 0
IsTagged None = Unit {0}
IsTagged (Some r) = IsTaggedNode r.key.slot r.node

-- what holds of the board's fields at all times: each list has a place for each slot or letter, and the
-- callers that hold anything are those of open files and tokens
pub record IsWholeBoard (n : Nodes) (events : List ℕ) (texts : List (List ℕ))
    (files : List (Option BoardFile)) (tokens : List (Option BoardToken)) : Type 0 where
  pub few : length n.log.tree ≤ most_slots
  pub an_event_each : length events ≡ length n.log.tree
  pub a_text_each : length texts ≡ length n.log.tree
  pub a_file_each : length files ≡ 26
  pub a_token_each : length tokens ≡ length n.log.tree
  pub tagged : (slot : ℕ) (o : Option Record) → slice_get n.log.tree slot ≡ Some o → IsTagged o
  -- whoever holds a slot is the caller of an open file on it or of its token, and no two files have the same
  -- caller
  pub idle : AllIdle n.callers
  pub held : (file : ℕ) (f : BoardFile) → slice_get files file ≡ Some (Some f) → IsHeldFile n.callers f
  pub apart : (one other : ℕ) (f g : BoardFile) → slice_get files one ≡ Some (Some f)
      → slice_get files other ≡ Some (Some g) → f.file.hold ≡ g.file.hold → one ≡ other
  pub hidden : (slot : ℕ) (t : BoardToken) → slice_get tokens slot ≡ Some (Some t)
      → IsHeldToken n.callers slot t
  pub counted : (slot : ℕ) → hold_count n.callers slot
      ≡ count_on (plain_files files) (plain_tokens tokens) slot

-- a file that was just opened by a new caller
pub record IsOpened (n : Nodes) (path : List ℕ) (want : Want) (f : BoardFile) : Type 0 where
  pub node : Record
  pub known : record_at n.log.tree f.key ≡ Some node
  pub is_file : (mode : ℕ) × (tag : ℕ) × (node.node ≡ File mode tag)
  pub leads : opened_node n.log (hold_count n.callers) n.limit path want ≡ Ok f.key
  pub new : f.file ≡ record { hold = length n.callers; tag = tag_of node.node; state = new_file want }
