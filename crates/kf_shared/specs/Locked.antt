-- What the tree's lock guards, and how the calls on one node change it.
use Rattle.std.specs.Prelude.{◌≡◌, ◌⊎◌, ℕ, Bool, false, ◌==◌, ◌&&◌, nat_lt, nat_le, slice_get, List, [], ◌∷◌, ◌++◌, length, Option, None, Some, MatchBool, IfSome}
use Rattle.std.specs.Option.{option_map}
use Rattle.kf_core.specs.declared.key.Key.{Key}
use Rattle.kf_core.specs.declared.key.Node.{Node}
use Rattle.kf_core.specs.declared.command.Command.TheVariants.{Create, Unlink}
use Rattle.kf_core.specs.declared.caller.Phase.TheVariants.{Still}
use Rattle.kf_core.specs.declared.refusal.Refusal.{Refusal}
use Rattle.kf_core.specs.declared.refusal.Refusal.TheVariants.{NoEntry, Busy}
use Rattle.kf_core.specs.Tree.{Tree, record_at, is_linked}
use Rattle.kf_tree.specs.Causes.{create_fault, create_cause, rename_cause, unlink_cause}
use Rattle.kf_tree.specs.TreeLogs.{TreeLog, IsKept, IsAccepted, IsRefused}
use Rattle.kf_words.specs.declared.view.MasterView.{MasterView}
use Rattle.kf_words.specs.Callers.{TableId, Handle}
use Rattle.kf_words.specs.Nodes.{MasterState, last_of, KeepsNodes, IsVacant, Searched, FoundFirst, PinRefused, UnlinkAnswer}
use Rattle.kf_words.specs.declared.note.Note.{Note}
use Rattle.kf_words.specs.Notes.{history_of}
use Rattle.kf_tree.specs.SlotMarks.{SameMarks}
use Rattle.kf_shared.specs.Agreement.{HasNodes}
use Rattle.kf_looks.specs.declared.view.Link.{Link}
use Rattle.kf_shared.specs.Noted.{IsNoted}

-- the tree with its commands, all links that were made for look-ups, the Master of the words, and for each
-- slot the generation that was claimed last
pub record Locked : Type 0 where
  pub state : TreeLog
  pub links : List Link
  pub master : MasterState
  pub claims : List ℕ

-- the Master is of this table and agrees with the tree, there are as many claims as slots, and the tree's
-- root has slot 0
pub record IsTied (table : TableId) (s : TreeLog) (m : MasterState) (claimed : List ℕ) : Type 0 where
  pub same_table : m.table ≡ table
  pub root : s.root.slot ≡ 0
  pub marks : SameMarks m.view.slots s.tree
  pub nodes : HasNodes m.nodes s.tree
  pub slots : length m.view.slots ≡ length s.tree
  pub all_nodes : length m.nodes ≡ length s.tree
  pub claims : length claimed ≡ length s.tree

-- the history that the Master has seen, which is all of it
abbrev pub history : Locked → List Note
history s = history_of s.master.seen

-- tree, claims and stored commands are those of the history
abbrev pub IsToldBy : Locked → List Note → Type 0
IsToldBy s notes = IsNoted s.state s.claims notes

-- what holds whenever the lock is free: the tree is lawful and the replay of its commands, the Master agrees
-- with the tree, and there are as many claims as slots. Tree, claims and stored commands are those of the
-- whole history
pub record IsWhole (table : TableId) (s : Locked) : Type 0 where
  pub kept : IsKept s.state
  pub tied : IsTied table s.state s.master s.claims
  pub told : IsToldBy s (history s)

-- this note came next in the history, and no other
abbrev pub Adds : Locked → Locked → Note → Type 0
Adds old new note = history new ≡ history old ++ note ∷ []

-- this call's search for a free slot returned this key, the next one of its slot, or it returned none
pub record HasFound (m : MasterView) (next : Option Key) (m' : MasterView) : Type 0 where
  pub searched : Searched m (option_map (λ (key : Key). key.slot) next) m'
  pub vacant : IfSome next (λ key. IsVacant m' key)

-- the slots were searched from 1 up, this one was the first that was found free, and the loads of that search
-- are those that counted at the last birth
abbrev pub BornLowest : MasterView → MasterView → ℕ → Type 0
BornLowest old new slot = (found : MasterView) × FoundFirst old slot found × (new.at_birth ≡ found.loads)

-- the node was linked in the directory under this key, the next one that was found, and that is stored
abbrev pub Created : Locked → Locked → Key → List ℕ → Node → Bool → Key → Type 0
Created old new parent name node live key =
    IsAccepted old.state new.state (create_cause old.state.tree old.state.root parent name node (Some key))
    (Create key parent name node live)

-- why the new node is refused, whatever its key is
abbrev pub creation_fault : Locked → Key → List ℕ → Node → Option Refusal
creation_fault s parent name node = create_fault s.state.tree s.state.root parent name node

-- why a creation was refused: the node is refused whatever its key is, and no slot was searched and nothing
-- changed. Or it is not, and with the next key that the search returned there was this cause, or there was no
-- memory
abbrev pub CreateRefused : Locked → Locked → Key → List ℕ → Node → Refusal → Type 0
CreateRefused old new parent name node refusal =
    ((creation_fault old parent name node ≡ Some refusal) × (new ≡ old))
    ⊎ ((creation_fault old parent name node ≡ None)
    × ((next : Option Key) × HasFound old.master.view next new.master.view
    × IsRefused old.state new.state (create_cause old.state.tree old.state.root parent name node next)
    refusal))

-- why a node may not be moved
abbrev pub move_cause : Locked → Key → Key → List ℕ → Option Refusal
move_cause s key dir name = rename_cause s.state.tree s.state.root key dir name

-- if the unlink returned true, the node was taken out of the tree, and that is stored; otherwise nothing was
-- done
abbrev pub UnlinkDone : Locked → Locked → Key → Bool → Type 0
UnlinkDone old new key unlinked = MatchBool unlinked
    (IsAccepted old.state new.state (unlink_cause old.state.tree key) (Unlink key)) (new ≡ old)

-- a new hold of this linked node; the hold has made no step
pub record IsHoldOfNode (table : TableId) (t : Tree) (key : Key) (hold : Handle) : Type 0 where
  pub same_table : hold.table ≡ table
  pub key_is : hold.key ≡ key
  pub node : option_map (λ r. r.node) (record_at t key) ≡ Some hold.node
  pub still : hold.phase ≡ Still
  pub steps : hold.steps ≡ 0

-- why a hold is refused: the node is not linked, and nothing changed; or one load found the greatest number
-- of holds; or there was no memory
abbrev pub HoldRefused : Locked → Locked → Key → Refusal → Type 0
HoldRefused old new key refusal = MatchBool (is_linked old.state.tree key)
    (PinRefused old.master.view key.slot refusal new.master.view) ((refusal ≡ NoEntry) × (new ≡ old))

-- the root, the tree, its commands and the claims are as before. So are the Master's table, limit of holds,
-- nodes and slots, and the Master added no note
pub record Unchanged (old new : Locked) : Type 0 where
  pub root : new.state.root ≡ old.state.root
  pub tree : new.state.tree ≡ old.state.tree
  pub commands : new.state.commands ≡ old.state.commands
  pub claims : new.claims ≡ old.claims
  pub master : KeepsNodes old.master new.master

-- why an unlink is refused: the tree refuses it, and nothing changed; or the tree does not, but one load
-- found the word in use, and the refusal is Busy
abbrev pub UnlinkRefused : Locked → Locked → Key → Refusal → Type 0
UnlinkRefused old new key refusal =
    ((unlink_cause old.state.tree key ≡ Some refusal) × (new ≡ old))
    ⊎ ((unlink_cause old.state.tree key ≡ None) × (refusal ≡ Busy)
    × UnlinkAnswer old.master.view key.slot false new.master.view × Unchanged old new)

-- there is a number, and it is this one
abbrev pub is_some_of : Option ℕ → ℕ → Bool
is_some_of None n = false
is_some_of (Some m) n = m == n

-- there is a last generation, and this generation is not 0 and not later than the last
abbrev pub is_up_to : Option ℕ → ℕ → Bool
is_up_to None n = false
is_up_to (Some last) n = nat_lt 0 n && nat_le n last

-- the key's slot has had the key's generation: each slot gives its generations in turn, from 1 on
abbrev pub was_given : MasterView → Key → Bool
was_given m key = is_up_to (last_of m key.slot) key.generation

-- the generation of the key was claimed last
abbrev pub is_claimed : List ℕ → Key → Bool
is_claimed claims key = is_some_of (slice_get claims key.slot) key.generation
