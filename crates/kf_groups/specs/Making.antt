-- The commands that make a group.
use Rattle.std.specs.Prelude.{◌≡◌, ℕ, false, List, [], ◌∷◌, ◌++◌, length, Option, None, Some}
use denote.Ref.{Bor}
use Rattle.kf_core.specs.declared.command.Command.{Command}
use Rattle.kf_core.specs.declared.command.Command.TheVariants.{Create, Activate}
use Rattle.kf_core.specs.declared.key.Key.{Key}
use Rattle.kf_core.specs.declared.key.Node.TheVariants.{Dir}
use Rattle.kf_core.specs.Tree.{is_linked}
use Rattle.kf_tree.specs.TreeLogs.{TreeLog, Stores}
use Rattle.kf_groups.specs.declared.attribute.Attribute.{Attribute}
use Rattle.kf_groups.specs.declared.attribute.Group.{Group}
use Rattle.kf_groups.specs.Attributes.{shown, file_of, group_cause, own_name}

-- the command that makes a file in the directory, under this key, not yet live
abbrev pub creation : Key → Attribute → Key → Command
creation dir attribute key = Create key dir attribute.name.now (file_of attribute) false

-- the commands that make files, one after another, under these keys; if there are fewer keys, only the first
-- files
abbrev pub creations : Key → List Attribute → List Key → List Command
creations dir (attribute ∷ attributes) (key ∷ keys) =
    creation dir attribute key ∷ creations dir attributes keys
creations dir attributes keys = []

-- the commands that make all of the files, and then activate each: none is live before all of them exist
abbrev pub live_creations : Key → List Attribute → List Key → List Command
live_creations dir (attribute ∷ attributes) (key ∷ keys) =
    creation dir attribute key ∷ (live_creations dir attributes keys ++ Activate key ∷ [])
live_creations dir attributes keys = []

-- the commands that make a directory with the files in it, and then activate all of them
abbrev pub named_creations : Key → List ℕ → List Attribute → Key → List Key → List Command
named_creations dir name attributes key keys =
    Create key dir name Dir false ∷ (creations key attributes keys ++ Activate key ∷ [])

-- the group was made: its files directly in the directory, or in a new directory of this group
abbrev pub MadeByName : TreeLog → TreeLog → Key → List Attribute → Option (Bor (List ℕ)) → Key → Type 0
MadeByName old new dir attributes None key = (key ≡ dir) × ((keys : List Key)
    × (length keys ≡ length attributes) × Stores old new (live_creations dir attributes keys))
MadeByName old new dir attributes (Some name) key = (is_linked old.tree key ≡ false) × ((keys : List Key)
    × (length keys ≡ length attributes) × Stores old new (named_creations dir name.now attributes key keys))

-- there was no cause to refuse the group, and it was made; the key is that of the directory with its files
pub record GroupMade (old new : TreeLog) (dir : Key) (group : Group) (key : Key) : Type 0 where
  pub no_cause : group_cause old.tree old.root dir group ≡ None
  pub made : MadeByName old new dir (shown group.attributes.now) (own_name group) key
