-- What was made of a group is taken back, and why. Each step relates what the lock guarded before it to what
-- the lock guarded after it.
use Rattle.std.specs.Prelude.{◌≡◌, ◌⊎◌, ◌+◌, ℕ, false, List, [], ◌∷◌, length, map, All, Contains, Option, None, Some, IfOk, OnErr}
use denote.Ref.{Bor}
use Rattle.kf_core.specs.declared.command.Command.TheVariants.{Doom, Unlink}
use Rattle.kf_core.specs.declared.key.Key.{Key}
use Rattle.kf_core.specs.declared.key.Node.TheVariants.{Dir}
use Rattle.kf_core.specs.declared.refusal.Refusal.{Refusal}
use Rattle.kf_core.specs.declared.refusal.Refusal.TheVariants.{NoMemory, NoSpace}
use Rattle.kf_core.specs.PostOrder.{IsPostOrder}
use Rattle.kf_core.specs.Tree.{Tree}
use Rattle.kf_tree.specs.Paths.{found}
use Rattle.kf_tree.specs.TreeLogs.{Stores}
use Rattle.kf_shared.specs.Locked.{Locked, Created, CreateRefused, HoldRefused, Unchanged}
use Rattle.kf_shared.specs.Removal.{DoomRefused}
use Rattle.kf_words.specs.Nodes.{WasPinned}
use Rattle.kf_groups.specs.declared.attribute.Attribute.{Attribute}
use Rattle.kf_groups.specs.declared.attribute.Group.{Group}
use Rattle.kf_groups.specs.Attributes.{file_of, group_cause, own_name, shown}
use Rattle.kf_groups.specs.Making.{creations, live_creations}
use Rattle.kf_tree.specs.Subtrees.{linked_count}

-- the refusal and the reason are NoSpace, and as many nodes are linked as before; or the refusal is NoMemory
abbrev pub LacksRoom : Tree → Tree → Refusal → Refusal → Type 0
LacksRoom old new why refusal =
    ((refusal ≡ NoSpace) × (why ≡ NoSpace) × (linked_count new ≡ linked_count old)) ⊎ (refusal ≡ NoMemory)

-- the refusal and the reason are NoSpace, and the tree is as it was; or the refusal is NoMemory, even if
-- memory was lacking only to take back what was made
abbrev pub RoomRefused : Tree → Tree → Refusal → Refusal → Type 0
RoomRefused old new why refusal =
    ((refusal ≡ NoSpace) × (why ≡ NoSpace) × (new ≡ old)) ⊎ (refusal ≡ NoMemory)

-- the result is this refusal, and this many nodes fewer are linked; or the result is NoMemory
abbrev pub GaveUp : ℕ → Tree → Tree → Refusal → Refusal → Type 0
GaveUp nodes old new refusal result =
    ((result ≡ refusal) × (linked_count new + nodes ≡ linked_count old)) ⊎ (result ≡ NoMemory)

-- the removal of the node was refused, and no command was stored: a hold of the node was refused; or a hold
-- was counted, and then the doom was refused
abbrev pub TakeBackRefused : Locked → Locked → Key → Type 0
TakeBackRefused old new key = Unchanged old new × (refusal : Refusal) × (HoldRefused old new key refusal
    ⊎ ((held : Locked) × (held.state ≡ old.state) × WasPinned old.master.view key.slot held.master.view
    × DoomRefused held new key refusal))

-- the node was doomed with all below it, and then some of these nodes were unlinked
abbrev pub DoomedAndUnlinked : Locked → Locked → Key → Type 0
DoomedAndUnlinked old new key = (order unlinked : List Key) × IsPostOrder old.state.tree key order
    × All (Contains order) unlinked × Stores old.state new.state (Doom key ∷ map Unlink unlinked)

-- a node was taken back, or its removal was refused
abbrev pub TookBack : Locked → Locked → Key → Type 0
TookBack old new key = TakeBackRefused old new key ⊎ DoomedAndUnlinked old new key

-- the node that has this name in the directory, live or not, was taken back, or its removal was refused; if
-- there is no such node, nothing was done
abbrev pub NameTookBack : Locked → Locked → Key → List ℕ → Type 0
NameTookBack old new dir name = IfOk (found old.state.tree dir name) (λ key. TookBack old new key)
    × OnErr (found old.state.tree dir name) (new ≡ old)

-- the files of these attributes were taken back, the last one first, each by the name that it had in the
-- directory at that moment
abbrev pub EachTookBack : Locked → Locked → Key → List Attribute → Type 0
EachTookBack old new dir [] = new ≡ old
EachTookBack old new dir (attribute ∷ attributes) = (between : Locked)
    × EachTookBack old between dir attributes × NameTookBack between new dir attribute.name.now

-- the file of the attribute was made under the key, not yet live
abbrev pub FileMade : Locked → Locked → Key → Attribute → Key → Type 0
FileMade old new dir attribute key = Created old new dir attribute.name.now (file_of attribute) false key

-- the files were all made and activated, and then taken back, because there was no memory to activate an
-- earlier file
abbrev pub LiveTakenBack : Locked → Locked → Key → List Attribute → Refusal → Type 0
LiveTakenBack old new dir attributes why = (why ≡ NoMemory) × (live : Locked)
    × ((keys : List Key) × (length keys ≡ length attributes)
    × Stores old.state live.state (live_creations dir attributes keys))
    × EachTookBack live new dir attributes

-- the first of these files was refused, for this reason; or it was made, and for this reason a later one was
-- refused or the first was not activated. In the second case each file that was made was then taken back, the
-- last one first
abbrev pub FilesTakenBack : Locked → Locked → Key → List Attribute → Refusal → Type 0
FilesTakenBack old new dir [] why = ⊥
FilesTakenBack old new dir (attribute ∷ attributes) why =
    CreateRefused old new dir attribute.name.now (file_of attribute) why
    ⊎ ((made stopped : Locked) × (key : Key) × FileMade old made dir attribute key
    × (FilesTakenBack made stopped dir attributes why ⊎ LiveTakenBack made stopped dir attributes why)
    × TookBack stopped new key)

-- the files were all made, but their directory was not activated, for lack of memory
abbrev pub NotActivated : Locked → Locked → Key → List Attribute → Refusal → Type 0
NotActivated old new key attributes why = (why ≡ NoMemory) × (keys : List Key)
    × (length keys ≡ length attributes) × Stores old.state new.state (creations key attributes keys)

-- the directory was refused, for this reason; or it was made, and for this reason one of its files was
-- refused or the directory was not activated. In the second case the directory was then taken back, after
-- the files that were made before one was refused
abbrev pub DirectoryTakenBack : Locked → Locked → Key → List ℕ → List Attribute → Refusal → Type 0
DirectoryTakenBack old new dir name attributes why = CreateRefused old new dir name Dir why
    ⊎ ((made stopped : Locked) × (key : Key) × Created old made dir name Dir false key
    × (FilesTakenBack made stopped key attributes why ⊎ NotActivated made stopped key attributes why)
    × TookBack stopped new key)

-- a group was not made, for this reason, and each of its nodes that was made was taken back, or the removal
-- of that node was refused
abbrev pub TakenBackByName : Locked → Locked → Key → List Attribute → Option (Bor (List ℕ)) → Refusal → Type 0
TakenBackByName old new dir attributes None why = FilesTakenBack old new dir attributes why
TakenBackByName old new dir attributes (Some name) why =
    DirectoryTakenBack old new dir name.now attributes why

-- there was this cause to refuse the group, and nothing changed; or there was none. Then a slot or memory was
-- lacking, and what was made of it was taken back, except for nodes whose removal was refused
abbrev pub GroupRefused : Locked → Locked → Key → Group → Refusal → Type 0
GroupRefused old new dir group refusal =
    ((group_cause old.state.tree old.state.root dir group ≡ Some refusal) × (new ≡ old))
    ⊎ ((group_cause old.state.tree old.state.root dir group ≡ None) × (why : Refusal)
    × RoomRefused old.state.tree new.state.tree why refusal
    × TakenBackByName old new dir (shown group.attributes.now) (own_name group) why)
