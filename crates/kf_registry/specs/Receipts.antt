-- What was done to publish a value, and what the receipts of taken and swapped values have seen.
use Rattle.std.specs.Prelude.{◌≡◌, ℕ, true, not, List, [], ◌∷◌, ◌++◌, Some, Ok, if◌then◌else◌}
use Rattle.std.specs.Option.{option_map}
use Rattle.kf_core.specs.declared.key.Key.{Key}
use Rattle.kf_core.specs.declared.key.Node.{Node}
use Rattle.kf_core.specs.declared.key.Node.TheVariants.{File}
use Rattle.kf_core.specs.declared.command.Command.TheVariants.{Create, Doom, Rename}
use Rattle.kf_core.specs.declared.caller.Phase.TheVariants.{Parted}
use Rattle.kf_core.specs.Commands.{after}
use Rattle.kf_core.specs.Tree.{Tree, record_at}
use Rattle.kf_table.specs.Children.{is_there_already}
use Rattle.kf_tree.specs.Paths.{seen}
use Rattle.kf_words.specs.declared.note.Note.{Note}
use Rattle.kf_words.specs.declared.note.Note.TheVariants.{Did}
use Rattle.kf_words.specs.Callers.{Handle}
use Rattle.kf_words.specs.Notes.{history_of}
use Rattle.kf_shared.specs.Locked.{Locked, Adds, history}
use Rattle.kf_shared.specs.Noted.{BeginsWith, tree_in}
use Rattle.kf_shared.specs.Sections.{IsTaken, SawItsRemoval, note_where}
use Rattle.kf_registry.specs.Names.{name_in}

-- the node of a value that is not hot, and that of a hot value
abbrev pub value_node : Node
value_node = File 0 0

abbrev pub hot_node : Node
hot_node = File 0 1

-- the key is linked, and its node is that of a hot value; or this is not so
abbrev pub IsHot : Tree → Key → Type 0
IsHot t key = option_map (λ r. r.node) (record_at t key) ≡ Some hot_node

abbrev pub IsPlain : Tree → Key → Type 0
IsPlain t key = IsHot t key → ⊥

-- a name that no path of a registry has: it begins with a dot
abbrev pub IsLeaving : List ℕ → Type 0
IsLeaving name = (rest : List ℕ) × (name ≡ 46 ∷ rest)

-- the note that this node is created in the root, live, under this key and this name
abbrev pub stands : Node → Key → Key → List ℕ → Note
stands node root key name = Did (Create key root name node true)

-- the tree after a node moved to another name in the root, or the same tree if the node has that name there
-- already; and the note of that move, if there is one
abbrev pub moved_tree : Tree → Key → Key → List ℕ → Tree
moved_tree t root key away = if is_there_already t key root away then t else after t (Rename key root away)

abbrev pub moves_away : Tree → Key → Key → List ℕ → List Note
moves_away t root key away = note_where (not (is_there_already t key root away)) (Did (Rename key root away))

-- the notes of a swap: the old node moves to the other name `away`, and the new one is created under this
-- name
abbrev pub swap_notes : Tree → Key → Key → List ℕ → Key → List ℕ → List Note
swap_notes t root old away new name = moves_away t root old away ++ stands value_node root new name ∷ []

-- this was the history of the tree with this root when the lock was taken. In that tree the path named the
-- live node of this key, and `Such` was true of it
pub record NamedLive (Such : Tree → Key → Type 0) (path : List ℕ) (key root : Key)
    (found : List Note) : Type 0 where
  pub slots : ℕ
  pub began : BeginsWith slots root found
  pub taken : IsTaken found
  pub named : seen (tree_in found) root path ≡ Ok key
  pub such : Such (tree_in found) key

-- when the lock was taken, `found` was the history of the tree with this root. Next, this node was created
-- live in the root, with this key and the name in the path. This hold has seen all of that, and no later note
pub record WasPublished (node : Node) (path : List ℕ) (key : Key) (by : Handle) : Type 0 where
  pub found : List Note
  pub slots : ℕ
  pub root : Key
  pub began : BeginsWith slots root found
  pub taken : IsTaken found
  pub name : List ℕ
  pub name_is : name_in path ≡ Ok name
  pub known : history_of by.seen ≡ found ++ stands node root key name ∷ []

-- this was the history. Next came the doom of the receipt's node, then unlinks, and then the release of the
-- lock, with no other note between these. The receipt has seen all of that
abbrev pub WasRemovedAfter : List Note → Handle → Type 0
WasRemovedAfter found receipt = (keys : List Key) × SawItsRemoval found receipt.key keys receipt

-- the receipt is of the live node that the path named when the lock was taken, and `Such` was true of that
-- node. The receipt saw that nobody was inside, and that the node has left the tree. From the taking of the
-- lock to its release, only the node's doom, and then unlinks, were noted
pub record WasTaken (Such : Tree → Key → Type 0) (path : List ℕ) (receipt : Handle) : Type 0 where
  pub found : List Note
  pub root : Key
  pub at : NamedLive Such path receipt.key root found
  pub parted : receipt.phase ≡ Parted
  pub saw : WasRemovedAfter found receipt

-- the same for a value that is not hot. But before the doom, in the same critical section, the node moved to
-- a leaving name, and a new live node was created under the name in the path
pub record WasSwapped (path : List ℕ) (receipt : Handle) : Type 0 where
  pub found : List Note
  pub root : Key
  pub at : NamedLive IsPlain path receipt.key root found
  pub parted : receipt.phase ≡ Parted
  pub away : List ℕ
  pub leaving : IsLeaving away
  pub new : Key
  pub name : List ℕ
  pub name_is : name_in path ≡ Ok name
  pub saw : WasRemovedAfter (found ++ swap_notes (tree_in found) root receipt.key away new name) receipt

-- under the lock, the live node that the path named, whose value is not hot, moved to a leaving name
pub record WasMovedAway (old new : Locked) (path : List ℕ) (key : Key) (away : List ℕ) : Type 0 where
  pub named : seen old.state.tree old.state.root path ≡ Ok key
  pub plain : IsPlain old.state.tree key
  pub leaving : IsLeaving away
  pub root : new.state.root ≡ old.state.root
  pub tree : new.state.tree ≡ moved_tree old.state.tree old.state.root key away
  pub noted : history new ≡ history old ++ moves_away old.state.tree old.state.root key away

-- under the lock, the node of this key moved to a leaving name, a new node was created under this name, and
-- then the node of this key was doomed
abbrev pub Exchanged : Locked → Locked → Key → List ℕ → Type 0
Exchanged old new key name = (mid : Locked) × ((away : List ℕ) × IsLeaving away × (stood : Key)
    × (history mid ≡ history old ++ swap_notes old.state.tree old.state.root key away stood name))
    × Adds mid new (Did (Doom key))
