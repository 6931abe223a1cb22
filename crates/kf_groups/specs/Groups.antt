-- Several groups in one directory, and what is made of them and taken back.
use Rattle.std.specs.Prelude.{◌≡◌, ◌⊎◌, ◌+◌, ℕ, Bool, false, not, List, [], ◌∷◌, Option, None, Some}
use Rattle.std.specs.List.{list_any}
use Rattle.std.specs.Str.{bytes_eq}
use denote.Ref.{Bor}
use Rattle.kf_core.specs.declared.key.Key.{Key}
use Rattle.kf_core.specs.declared.refusal.Refusal.{Refusal}
use Rattle.kf_core.specs.declared.refusal.Refusal.TheVariants.{Exists}
use Rattle.kf_core.specs.Refusals.{unless, first_cause}
use Rattle.kf_core.specs.Tree.{Tree, is_linked}
use Rattle.kf_shared.specs.Locked.{Locked}
use Rattle.kf_tree.specs.TreeLogs.{TreeLog}
use Rattle.kf_groups.specs.declared.attribute.Attribute.{Attribute}
use Rattle.kf_groups.specs.declared.attribute.Group.{Group}
use Rattle.kf_groups.specs.Attributes.{HasNone, group_cause, group_size, has_name, own_name, shown}
use Rattle.kf_groups.specs.Making.{GroupMade}
use Rattle.kf_groups.specs.TakenBack.{EachTookBack, RoomRefused, TakenBackByName, TookBack}

-- whether the group makes an entry of this name: its own directory, or one of its files
abbrev pub makes_by_name : List Attribute → Option (Bor (List ℕ)) → List ℕ → Bool
makes_by_name attributes None name = has_name attributes name
makes_by_name attributes (Some own) name = bytes_eq own.now name

abbrev pub makes : List ℕ → Group → Bool
makes name group = makes_by_name (shown group.attributes.now) (own_name group) name

-- whether the other group, with these files and this directory (if it makes one), makes an entry with a name
-- that this group makes too
abbrev pub shares_by_name : Group → List Attribute → Option (Bor (List ℕ)) → Bool
shares_by_name group attributes None = list_any (λ attribute. makes attribute.name.now group) attributes
shares_by_name group attributes (Some own) = makes own.now group

abbrev pub shares : Group → Group → Bool
shares group other = shares_by_name group (shown other.attributes.now) (own_name other)

-- whether one of the others makes an entry with a name that this group makes too
abbrev pub clashes : List Group → Group → Bool
clashes others group = list_any (shares group) others

-- why the groups are refused: for one after another, what is wrong with it, and then that a later one makes
-- an entry of the same name
abbrev pub groups_cause : Tree → Key → Key → List Group → Option Refusal
groups_cause t root dir [] = None
groups_cause t root dir (group ∷ groups) = first_cause (
    group_cause t root dir group
    ∷ unless (not (clashes groups group)) Exists
    ∷ groups_cause t root dir groups
    ∷ [])

-- how many nodes the groups have together
abbrev pub groups_size : List Group → ℕ
groups_size [] = 0
groups_size (group ∷ groups) = group_size group + groups_size groups

-- the groups were made, one after another
abbrev pub GroupsMade : TreeLog → TreeLog → Key → List Group → Type 0
GroupsMade old new dir [] = new ≡ old
GroupsMade old new dir (group ∷ groups) = (made : TreeLog) × (key : Key)
    × GroupMade old made dir group key × GroupsMade made new dir groups

-- the tree has no entry with the name of any of the group's files; or, if the group makes its own directory,
-- this key is not linked
abbrev pub IsWithout : Tree → Key → Key → List Attribute → Option (Bor (List ℕ)) → Type 0
IsWithout t dir key attributes None = HasNone t dir attributes
IsWithout t dir key attributes (Some own) = is_linked t key ≡ false

-- a group that was made was taken back: its files, the last one first, and then its own directory, if it has
-- one
abbrev pub GroupTakenBack : Locked → Locked → Key → Key → List Attribute → Option (Bor (List ℕ)) → Type 0
GroupTakenBack old new dir key attributes None = EachTookBack old new dir attributes
GroupTakenBack old new dir key attributes (Some own) =
    (between : Locked) × EachTookBack old between key attributes × TookBack between new key

-- one of the groups was not made, for this reason, and what was made of it was taken back; then each group
-- before it was taken back, the last one first
abbrev pub GroupsTakenBack : Locked → Locked → Key → List Group → Refusal → Type 0
GroupsTakenBack old new dir [] why = ⊥
GroupsTakenBack old new dir (group ∷ groups) why =
    TakenBackByName old new dir (shown group.attributes.now) (own_name group) why
    ⊎ ((made stopped : Locked) × (key : Key) × GroupMade old.state made.state dir group key
    × GroupsTakenBack made stopped dir groups why
    × GroupTakenBack stopped new dir key (shown group.attributes.now) (own_name group))

-- there was this cause to refuse the groups, and nothing changed; or there was none. Then a slot or memory
-- was lacking, and what was made of them was taken back, except for nodes whose removal was refused
abbrev pub GroupsRefused : Locked → Locked → Key → List Group → Refusal → Type 0
GroupsRefused old new dir groups refusal =
    ((groups_cause old.state.tree old.state.root dir groups ≡ Some refusal) × (new ≡ old))
    ⊎ ((groups_cause old.state.tree old.state.root dir groups ≡ None) × (why : Refusal)
    × RoomRefused old.state.tree new.state.tree why refusal × GroupsTakenBack old new dir groups why)
