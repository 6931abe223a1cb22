-- A directory that is made with its groups, and why it is refused.
use Rattle.std.specs.Prelude.{◌⊎◌, ℕ, false, List}
use Rattle.kf_core.specs.declared.key.Key.{Key}
use Rattle.kf_core.specs.declared.key.Node.TheVariants.{Dir}
use Rattle.kf_core.specs.declared.refusal.Refusal.{Refusal}
use Rattle.kf_shared.specs.Locked.{Locked, Created, CreateRefused}
use Rattle.kf_groups.specs.declared.attribute.Group.{Group}
use Rattle.kf_groups.specs.Groups.{GroupsMade, GroupsRefused}
use Rattle.kf_groups.specs.TakenBack.{GaveUp, TookBack}

-- the directory was made under this key, not yet live, and then the groups were made in it
abbrev pub DirectoryMade : Locked → Locked → Key → List ℕ → List Group → Key → Type 0
DirectoryMade old new dir name groups key = (empty : Locked) × Created old empty dir name Dir false key
    × GroupsMade empty.state new.state key groups

-- the directory was refused; or it was made, its groups were refused, and it was taken back. Then one node
-- fewer is linked and the refusal is that of the groups, or the refusal is NoMemory
abbrev pub DirectoryRefused : Locked → Locked → Key → List ℕ → List Group → Refusal → Type 0
DirectoryRefused old new dir name groups refusal = CreateRefused old new dir name Dir refusal
    ⊎ ((empty stopped : Locked) × (key : Key) × (why : Refusal) × Created old empty dir name Dir false key
    × GroupsRefused empty stopped key groups why × TookBack stopped new key
    × GaveUp 1 stopped.state.tree new.state.tree why refusal)
