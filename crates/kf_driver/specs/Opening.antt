-- A file that is opened by its path, and a notify by name.
use Rattle.std.specs.Prelude.{◌≡◌, ◌⊎◌, ◌+◌, ◌-◌, ◌^◌, ◌<◌, ◌≤◌, ℕ, List, true, false, Option, None, Some, Ok, Err, Result, MatchResult}
use Rattle.std.specs.Option.{option_map}
use Rattle.kf_core.specs.declared.key.Key.{Key}
use Rattle.kf_core.specs.declared.key.Node.{Node}
use Rattle.kf_core.specs.declared.key.Node.TheVariants.{Dir, File, Link}
use Rattle.kf_core.specs.declared.refusal.Refusal.{Refusal}
use Rattle.kf_core.specs.declared.refusal.Refusal.TheVariants.{NoEntry, NoMemory, Access, NoDevice, IsDir, Invalid, TooManyHolds, NoSpace}
use Rattle.kf_core.specs.Tree.{Tree, record_at}
use Rattle.kf_tree.specs.Paths.{and_then, seen}
use Rattle.kf_words.specs.Callers.{Handle}
use Rattle.kf_words.specs.Nodes.{WasFull}
use Rattle.kf_words.specs.declared.view.MasterView.{MasterView}
use Rattle.kf_shared.specs.Finding.{HasSeenTaken}
use Rattle.kf_shared.specs.Locked.{Locked, history}
use Rattle.kf_shared.specs.Noted.{tree_in}
use Rattle.kf_words.specs.declared.note.Note.{Note}
use Rattle.kf_notify.specs.PostStates.{PostState, Numbers, id_of, IsNewPost}
use Rattle.kf_pages.specs.declared.contents.Want.{Want}
use Rattle.kf_pages.specs.Files.{new_file, allows}
use Rattle.kf_files.specs.Opened.{Opened}
use Rattle.kf_looks.specs.Links.{IsLater}
use Rattle.kf_live.specs.Lookers.{Onlooker, links_seen}
use Rattle.kf_words.specs.Makers.{Maker}

-- the node of the key, if there is one
abbrev pub node_at : Tree → Key → Option Node
node_at t key = option_map (λ r. r.node) (record_at t key)

-- the key if its node is a file, or else the refusal
abbrev pub only_file : Key → Option Node → Result Key Refusal
only_file key None = Err NoEntry
only_file key (Some Dir) = Err IsDir
only_file key (Some (Link target)) = Err Invalid
only_file key (Some (File mode tag)) = Ok key

-- the key of the file at a place in a tree, or why there is none
abbrev pub file_at : Tree → Result Key Refusal → Result Key Refusal
file_at t place = and_then place (λ key. only_file key (node_at t key))

-- this is a newly opened file of the live node that the path names in this tree. Its hold is of that node,
-- and the node is a file. The opened file has the node's tag, and a new post of the node's slot and of these
-- numbers. The node's mode allows what is asked
pub record OpenedAt (t : Tree) (root : Key) (numbers : Numbers) (path : List ℕ) (want : Want)
    (file : Opened Handle) : Type 0 where
  pub key : Key
  pub mode : ℕ
  pub named : seen t root path ≡ Ok key
  pub there : node_at t key ≡ Some (File mode file.tag)
  pub held : file.hold.key ≡ key
  pub node : file.hold.node ≡ File mode file.tag
  pub allowed : allows mode want ≡ true
  pub fresh : IsNewPost numbers key.slot file.post
  pub new : file.state ≡ new_file want

-- this is a newly opened file of its hold's node, and the node is a file. The opened file has the node's tag,
-- and a new post of the node's slot and of these numbers. The node's mode allows what is asked
pub record IsOpened (numbers : Numbers) (want : Want) (file : Opened Handle) : Type 0 where
  pub mode : ℕ
  pub node : file.hold.node ≡ File mode file.tag
  pub allowed : allows mode want ≡ true
  pub fresh : IsNewPost numbers file.hold.key.slot file.post
  pub new : file.state ≡ new_file want

-- what contracts see of an opener: its looker, its maker of holds, and its handle of the event numbers
pub record OpenerState : Type 0 where
  pub looker : Onlooker
  pub holds : Maker
  pub posts : Numbers

-- the opener has the same root, slots and posts as before, and its looker may have seen more; nothing is said
-- of its maker of holds
pub record IsSameOpener (old new : OpenerState) : Type 0 where
  pub root : new.looker.root ≡ old.looker.root
  pub slots : new.looker.slots ≡ old.looker.slots
  pub later : IsLater (links_seen new.looker) (links_seen old.looker)
  pub posts : new.posts ≡ old.posts

-- there is a file at the place, and the post is new, of these numbers and of the file's slot
abbrev pub IsPostAt : Tree → Result Key Refusal → Numbers → PostState → Type 0
IsPostAt t place numbers post =
    (key : Key) × (file_at t place ≡ Ok key) × IsNewPost numbers key.slot post

-- why there is no event counter of the slot: the slot is not one of this many (NoSpace), or it is one, and
-- there is no memory
abbrev pub PostRefused : ℕ → ℕ → Refusal → Type 0
PostRefused slots slot refusal =
    ((refusal ≡ NoSpace) × (slots ≤ slot)) ⊎ ((refusal ≡ NoMemory) × (slot < slots))

-- why a file is not opened: it is not live, or its mode denies what is asked
abbrev pub NotOpened : ℕ → Want → Refusal → Type 0
NotOpened mode want refusal = (refusal ≡ NoDevice) ⊎ ((refusal ≡ Access) × (allows mode want ≡ false))

-- why there is no hold of this slot: there is no memory, or one load found the greatest number of holds
abbrev pub HeldRefused : MasterView → MasterView → ℕ → Refusal → Type 0
HeldRefused m m' slot refusal = (refusal ≡ NoMemory) ⊎ ((refusal ≡ TooManyHolds) × WasFull m slot m')

-- if no file was found, the refusal is the reason for that; otherwise there is no hold of the file, there is
-- no post, or the file is not opened
abbrev pub FileRefused : Locked → MasterView → ℕ → Want → Result Key Refusal → Refusal → Type 0
FileRefused s m' slots want place refusal = MatchResult place
    (λ key. (mode tag : ℕ) → node_at s.state.tree key ≡ Some (File mode tag)
    → HeldRefused s.master.view m' key.slot refusal ⊎ PostRefused slots key.slot refusal
    ⊎ NotOpened mode want refusal)
    (λ why. refusal ≡ why)

-- why an open by a path is refused
abbrev pub OpenRefused : Locked → MasterView → ℕ → List ℕ → Want → Refusal → Type 0
OpenRefused s m' slots path want refusal = FileRefused s m' slots want
    (file_at s.state.tree (seen s.state.tree s.state.root path)) refusal

-- the file was opened under the lock: it is the file that the path named in the tree when the lock was taken,
-- and this hold has seen the history up to then
pub record OpenedLocked (by : Handle) (numbers : Numbers) (path : List ℕ) (want : Want)
    (file : Opened Handle) : Type 0 where
  pub found : List Note
  pub root : Key
  pub at : HasSeenTaken by root found
  pub opened : OpenedAt (tree_in found) root numbers path want file

-- no file was opened under the lock, and this is why, given what the lock guarded when it was taken; this
-- hold has seen the history up to then
pub record RefusedLocked (by : Handle) (slots : ℕ) (path : List ℕ) (want : Want)
    (why : Refusal) : Type 0 where
  pub kept : Locked
  pub after : MasterView
  pub at : HasSeenTaken by kept.state.root (history kept)
  pub tree : kept.state.tree ≡ tree_in (history kept)
  pub refused : OpenRefused kept after slots path want why

-- there is a file at the place; the post is of these numbers and of the file's slot, and its last load found
-- a number that is not below the first number of each slot
pub record Notified (t : Tree) (place : Result Key Refusal) (numbers : Numbers)
    (post : PostState) : Type 0 where
  pub key : Key
  pub named : file_at t place ≡ Ok key
  pub numbers_are : post.numbers ≡ id_of numbers
  pub slot_is : post.slot ≡ key.slot
  pub no_less : numbers.start ≤ post.found

-- the post has made three steps: its last load found a number, and it raised the slot's number to the next
-- one, which is this and the greatest that it knows
pub record RaisedTo (number : ℕ) (post : PostState) : Type 0 where
  pub one_more : number ≡ post.found + 1
  pub made : post.made ≡ number
  pub known : post.known ≡ number
  pub three_steps : post.steps ≡ 3

-- the post has made two steps: its last load found the greatest number that there is, 2^64 - 1, and it has
-- raised none
pub record FoundLast (post : PostState) : Type 0 where
  pub found : post.found ≡ 2 ^ 64 - 1
  pub known : post.known ≡ 2 ^ 64 - 1
  pub none_made : post.made ≡ 0
  pub two_steps : post.steps ≡ 2
