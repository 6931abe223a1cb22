-- The board of one caller, as contracts see it.
use Rattle.std.specs.Prelude.{ℕ, ◌+◌, Bool, false, ◌==◌, nat_lt, List, [], count_by, replicate, slice_get, slice_set, Option, Some, None}
use Rattle.std.specs.Option.{option_and_then}
use Rattle.kf_core.specs.declared.key.Key.{Key}
use Rattle.kf_core.specs.declared.command.Command.{Command}
use Rattle.kf_core.specs.Commands.{root_alone}
use Rattle.kf_tree.specs.TreeLogs.{TreeLog}
use Rattle.kf_pages.specs.Files.{FileState}
use Rattle.kf_plain.specs.Nodes.{IsFreeKeyOf, listed, logged, root_key}

-- an open file: the key of its node, and the state that it keeps
pub record OpenPlainFile : Type 0 where
  pub key : Key
  pub kept : FileState

-- what a script can see of the board of one caller
pub record Plain : Type 0 where
  pub log : TreeLog  -- the tree with its stored commands
  pub last : List ℕ  -- by slot, its last generation
  pub limit : ℕ  -- the most holds of one slot
  pub events : List ℕ  -- by slot, its event number
  pub texts : List (List ℕ)  -- by slot, the text of its last file
  pub files : List (Option OpenPlainFile)  -- by the place of its letter in the alphabet
  pub tokens : List (Option Key)  -- by slot, the file that the board hides

-- a new board of only the root, if each slot has had `start` generations before
abbrev pub new_board : ℕ → ℕ → ℕ → Plain
new_board slots holds start = record {
  log =
      record { root = root_key start; tree = root_alone slots (root_key start); commands = []; ready = None };
  last = slice_set (replicate slots start) 0 (start + 1);
  limit = holds;
  events = replicate slots 1;
  texts = replicate slots [];
  files = replicate 26 None;
  tokens = replicate slots None;
}

-- ---- files and holds

-- the open file of this letter, if there is one
abbrev pub file_at : Plain → ℕ → Option OpenPlainFile
file_at b file = option_and_then (λ opened. opened) (slice_get b.files file)

-- whether there is an open file, and its node is in this slot
abbrev pub is_on : ℕ → Option OpenPlainFile → Bool
is_on slot None = false
is_on slot (Some opened) = opened.key.slot == slot

-- the key of the file that the board hides in this slot, if any; only the board can show it again
abbrev pub token_at : Plain → ℕ → Option Key
token_at b slot = option_and_then (λ token. token) (slice_get b.tokens slot)

-- how many tokens are kept here: one or none
abbrev pub token_count : Option (Option Key) → ℕ
token_count None = 0
token_count (Some None) = 0
token_count (Some (Some key)) = 1

-- how many open files, and how many tokens, hold the slot
abbrev pub count_on : List (Option OpenPlainFile) → List (Option Key) → ℕ → ℕ
count_on files tokens slot = count_by (is_on slot) files + token_count (slice_get tokens slot)

-- how many open files and tokens hold the slot; between two lines nobody else holds it
abbrev pub holder_count : Plain → ℕ → ℕ
holder_count b slot = count_on b.files b.tokens slot

-- whether one more hold of the slot may be taken
abbrev pub has_room : Plain → ℕ → Bool
has_room b slot = nat_lt (holder_count b slot) b.limit

-- ---- slots

-- the next key of the lowest slot that has no linked node and no holder, and has a generation left; the
-- root's slot is left out
abbrev pub IsFreeKey : Plain → Option Key → Type 0
IsFreeKey b next = IsFreeKeyOf b.log.tree b.last (holder_count b) next

-- ---- changes

-- the board after these commands were accepted, one after another
abbrev pub with_commands : Plain → List Command → Plain
with_commands b cs = record b { log = logged b.log cs }

-- the board with these stored commands in place of all others; the tree is as it was
abbrev pub with_list : Plain → List Command → Plain
with_list b cs = record b { log = listed b.log cs }

-- the board with this text for the file of a slot
abbrev pub with_text : Plain → ℕ → List ℕ → Plain
with_text b slot text = record b { texts = slice_set b.texts slot text }

-- the board with this open file, or none, at a letter's place
abbrev pub with_file : Plain → ℕ → Option OpenPlainFile → Plain
with_file b file opened = record b { files = slice_set b.files file opened }

-- the board with this token, or none, for a slot
abbrev pub with_token : Plain → ℕ → Option Key → Plain
with_token b slot token = record b { tokens = slice_set b.tokens slot token }
