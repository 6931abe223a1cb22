-- What is reported of a device: one event of its directory, and none of the files in it.
use Rattle.std.specs.Prelude.{◌≡◌, ◌⊎◌, true, false, List, ℕ, MatchBool, None}
use Rattle.kf_core.specs.declared.command.Command.TheVariants.{Activate, Doom}
use Rattle.kf_core.specs.declared.key.Key.{Key}
use Rattle.kf_core.specs.declared.refusal.Refusal.{Refusal}
use Rattle.kf_core.specs.declared.refusal.Refusal.TheVariants.{NoMemory, NoSpace}
use Rattle.kf_core.specs.Commands.{after}
use Rattle.kf_core.specs.Tree.{Tree}
use Rattle.kf_tree.specs.Causes.{doom_cause, linked_cause}
use Rattle.kf_tree.specs.TreeLogs.{TreeLog, IsAccepted}
use Rattle.kf_shared.specs.Locked.{Locked}
use Rattle.kf_shared.specs.Receipts.{KeyRefused}
use Rattle.kf_groups.specs.declared.attribute.Group.{Group}
use Rattle.kf_groups.specs.Directories.{DirectoryMade, DirectoryRefused}
use Rattle.kf_groups.specs.TakenBack.{TookBack}
use Rattle.kf_uevents.specs.declared.uevent.Action.{Action}
use Rattle.kf_uevents.specs.declared.uevent.Action.TheVariants.{Add, Remove}
use Rattle.kf_uevents.specs.Logs.{LogState, IsUsedUp}
use Rattle.kf_uevents.specs.News.{OneTold, is_told}

-- if the node's marks say that it is reported, one event of this action was reported for it; else the list
-- did not change
abbrev pub DeviceTold : Tree → Key → Action → Key → LogState → LogState → Type 0
DeviceTold t root action key old new =
    MatchBool (is_told t action key) (OneTold t root action key old new) (new ≡ old)

-- the directory was made with its groups, under this key, and not live. Then all of it was activated, and one
-- event was reported: the `add` of this directory, with the path that it has
abbrev pub DeviceAdded : Locked → Locked → Key → List ℕ → List Group → Key → LogState → LogState → Type 0
DeviceAdded old new dir name groups key log log' = (made : Locked)
    × DirectoryMade old made dir name groups key
    × IsAccepted made.state new.state (linked_cause made.state.tree key) (Activate key)
    × OneTold made.state.tree made.state.root Add key log log'

-- no number was left, and nothing changed; or the directory or one of its groups was refused; or all was
-- made, and for lack of memory it was taken back, or its removal was refused
abbrev pub AddRefused : Locked → Locked → Key → List ℕ → List Group → LogState → Refusal → Type 0
AddRefused old new dir name groups log why =
    ((why ≡ NoSpace) × IsUsedUp log × (new ≡ old))
    ⊎ DirectoryRefused old new dir name groups why
    ⊎ ((why ≡ NoMemory) × (made : Locked) × (key : Key) × DirectoryMade old made dir name groups key
    × TookBack made new key)

-- the removal itself is refused; or there is no cause to refuse the doom of the node, but the list, which is
-- behind its own lock, had no number left
abbrev pub DeviceRefused : TreeLog → Key → Refusal → Type 0
DeviceRefused s key why =
    KeyRefused s key why ⊎ ((doom_cause s.tree s.root key ≡ None) × (why ≡ NoSpace))

-- ---- over a device's life

-- in the tree right after an activation that reports a node, a removal would report the node, and another
-- activation would not
abbrev pub AddedOnce : Type 0
AddedOnce = (t : Tree) (key : Key) → is_told t Add key ≡ true
    → (is_told (after t (Activate key)) Add key ≡ false)
    × (is_told (after t (Activate key)) Remove key ≡ true)

-- in the tree right after its removal has begun, a node is not reported again, neither as removed nor as
-- added
abbrev pub RemovedOnce : Type 0
RemovedOnce = (t : Tree) (key : Key) → (is_told (after t (Doom key)) Remove key ≡ false)
    × (is_told (after t (Doom key)) Add key ≡ false)

-- a node that a removal would report is one that an activation would not report
abbrev pub NeverBoth : Type 0
NeverBoth = (t : Tree) (key : Key) → is_told t Remove key ≡ true → is_told t Add key ≡ false
