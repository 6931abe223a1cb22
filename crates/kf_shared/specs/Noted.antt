-- The tree, the claims and the stored commands that a history makes.
use Rattle.std.specs.Prelude.{◌≡◌, ◌⊎◌, ℕ, Bool, true, false, List, [], ◌∷◌, ◌++◌, length, replicate, slice_set}
use Rattle.kf_core.specs.declared.key.Key.{Key}
use Rattle.kf_core.specs.declared.command.Command.{Command}
use Rattle.kf_core.specs.Commands.{replay, root_alone}
use Rattle.kf_core.specs.Tree.{Tree}
use Rattle.kf_tree.specs.Canonical.{IsCanonical}
use Rattle.kf_tree.specs.TreeLogs.{TreeLog}
use Rattle.kf_words.specs.declared.note.Note.{Note}
use Rattle.kf_words.specs.declared.note.Note.TheVariants.{Did, Claimed, Compacted, Began, LockTaken, LockReleased}
use Rattle.kf_words.specs.Nodes.{MasterState}
use Rattle.kf_words.specs.Notes.{history_of}

-- the commands of a history, in their order
abbrev pub commands_of : List Note → List Command
commands_of [] = []
commands_of (Did command ∷ notes) = command ∷ commands_of notes
commands_of (Claimed key ∷ notes) = commands_of notes
commands_of (Compacted ∷ notes) = commands_of notes
commands_of (Began slots root ∷ notes) = commands_of notes
commands_of (LockTaken ∷ notes) = commands_of notes
commands_of (LockReleased ∷ notes) = commands_of notes

-- the tree of this many slots that a history makes from a tree of only the root
abbrev pub tree_of : ℕ → Key → List Note → Tree
tree_of slots root notes = replay (root_alone slots root) (commands_of notes)

-- the tree that a history makes, whose first note says how many slots the tree has, and its root
abbrev pub tree_in : List Note → Tree
tree_in [] = []
tree_in (Did command ∷ notes) = []
tree_in (Claimed key ∷ notes) = []
tree_in (Compacted ∷ notes) = []
tree_in (Began slots root ∷ notes) = tree_of slots root notes
tree_in (LockTaken ∷ notes) = []
tree_in (LockReleased ∷ notes) = []

-- for each slot the generation that was claimed last, after one more note
abbrev pub claims_after : List ℕ → Note → List ℕ
claims_after claims (Did command) = claims
claims_after claims (Claimed key) = slice_set claims key.slot key.generation
claims_after claims Compacted = claims
claims_after claims (Began slots root) = claims
claims_after claims LockTaken = claims
claims_after claims LockReleased = claims

-- the same after these notes, one after the other
abbrev pub claims_from : List ℕ → List Note → List ℕ
claims_from claims [] = claims
claims_from claims (note ∷ notes) = claims_from (claims_after claims note) notes

-- the claims that a history makes in this many slots, if none was claimed before
abbrev pub claims_of : ℕ → List Note → List ℕ
claims_of slots notes = claims_from (replicate slots 0) notes

-- the claims that a history makes, whose first note says how many slots there are
abbrev pub claims_in : List Note → List ℕ
claims_in [] = []
claims_in (Did command ∷ notes) = []
claims_in (Claimed key ∷ notes) = []
claims_in (Compacted ∷ notes) = []
claims_in (Began slots root ∷ notes) = claims_of slots notes
claims_in (LockTaken ∷ notes) = []
claims_in (LockReleased ∷ notes) = []

-- one of these notes is that of a compaction
abbrev pub compacts : List Note → Bool
compacts [] = false
compacts (Did command ∷ notes) = compacts notes
compacts (Claimed key ∷ notes) = compacts notes
compacts (Compacted ∷ notes) = true
compacts (Began slots root ∷ notes) = compacts notes
compacts (LockTaken ∷ notes) = compacts notes
compacts (LockReleased ∷ notes) = compacts notes

-- the stored commands are the canonical list of the tree at the last compaction, and after it the commands
-- that came later
pub record IsStoredSince (log : TreeLog) (notes : List Note) : Type 0 where
  pub before : List Note
  pub later : List Note
  pub canonical : List Command
  pub history : notes ≡ before ++ Compacted ∷ later
  pub last : compacts later ≡ false
  pub lists : IsCanonical (tree_of (length log.tree) log.root before) canonical
  pub stored : log.commands ≡ canonical ++ commands_of later

-- the stored commands are all those of the history, if there was no compaction; or they are what the last
-- compaction left and what came later
abbrev pub IsStored : TreeLog → List Note → Type 0
IsStored log notes =
    ((compacts notes ≡ false) × (log.commands ≡ commands_of notes)) ⊎ IsStoredSince log notes

-- the history begins with the making of a tree of this many slots and with this root
abbrev pub BeginsWith : ℕ → Key → List Note → Type 0
BeginsWith slots root notes = (more : List Note) × (notes ≡ Began slots root ∷ more)

-- the tree, the claims and the stored commands are those of the history, which begins with the making of this
-- tree
pub record IsNoted (log : TreeLog) (claims : List ℕ) (notes : List Note) : Type 0 where
  pub began : BeginsWith (length log.tree) log.root notes
  pub tree : log.tree ≡ tree_of (length log.tree) log.root notes
  pub claimed : claims ≡ claims_of (length log.tree) notes
  pub stored : IsStored log notes

-- the command that was stored last, as a note
abbrev pub last_stored : List Command → Note
last_stored [] = Compacted
last_stored (command ∷ []) = Did command
last_stored (command ∷ next ∷ commands) = last_stored (next ∷ commands)

-- the Master's table, nodes and view are unchanged
pub record KeepsWords (old new : MasterState) : Type 0 where
  pub table : new.table ≡ old.table
  pub nodes : new.nodes ≡ old.nodes
  pub view : new.view ≡ old.view

-- this note came next in the history, and the Master's table, nodes and view are unchanged
pub record WasNoted (note : Note) (old new : MasterState) : Type 0 where
  pub words : KeepsWords old new
  pub history : history_of new.seen ≡ history_of old.seen ++ note ∷ []
