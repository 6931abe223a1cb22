-- Which files a group has, and why the group is refused.
use Rattle.std.specs.Prelude.{◌≡◌, ℕ, suc, Bool, false, not, ◌==◌, List, [], ◌∷◌, length, filter, Option, None, Some, if◌then◌else◌}
use Rattle.std.specs.List.{list_any}
use Rattle.std.specs.Str.{bytes_eq}
use denote.Ref.{Bor}
use Rattle.kf_core.specs.declared.key.Key.{Key}
use Rattle.kf_core.specs.declared.key.Node.{Node}
use Rattle.kf_core.specs.declared.key.Node.TheVariants.{Dir, File}
use Rattle.kf_core.specs.declared.refusal.Refusal.{Refusal}
use Rattle.kf_core.specs.declared.refusal.Refusal.TheVariants.{Exists}
use Rattle.kf_core.specs.Names.{name_fault}
use Rattle.kf_core.specs.Refusals.{unless, first_cause}
use Rattle.kf_core.specs.Tree.{Tree}
use Rattle.kf_tree.specs.Causes.{create_fault, has_entry, list_cause}
use Rattle.kf_groups.specs.declared.attribute.Attribute.{Attribute}
use Rattle.kf_groups.specs.declared.attribute.Group.{Group}

-- whether the attribute has a file
abbrev pub is_shown : Attribute → Bool
is_shown attribute = not (attribute.mode == 0)

-- the attributes that have a file
abbrev pub shown : List Attribute → List Attribute
shown attributes = filter is_shown attributes

-- the node of an attribute's file
abbrev pub file_of : Attribute → Node
file_of attribute = File attribute.mode attribute.tag

-- whether one of the attributes has this name
abbrev pub has_name : List Attribute → List ℕ → Bool
has_name attributes name = list_any (λ attribute. bytes_eq attribute.name.now name) attributes

-- the directory has no entry with the name of any of these attributes
abbrev pub HasNone : Tree → Key → List Attribute → Type 0
HasNone t dir [] = Unit {0}
HasNone t dir (attribute ∷ attributes) =
    (has_entry t dir attribute.name.now ≡ false) × HasNone t dir attributes

-- why these files are refused: for one after another, what is wrong with it, and then that a later one has
-- the same name
abbrev pub files_cause : (Attribute → Option Refusal) → List Attribute → Option Refusal
files_cause fault [] = None
files_cause fault (attribute ∷ attributes) = first_cause (
    fault attribute
    ∷ unless (not (has_name attributes attribute.name.now)) Exists
    ∷ files_cause fault attributes
    ∷ [])

-- why the file of this attribute is refused, if it has one; the other attributes come later
abbrev pub shown_cause : (Attribute → Option Refusal) → Attribute → List Attribute → Option Refusal
shown_cause fault attribute later = if is_shown attribute
    then first_cause (fault attribute ∷ unless (not (has_name (shown later) attribute.name.now)) Exists ∷ [])
    else None

-- what is wrong with a file in this directory, or in a new one (None)
abbrev pub file_fault : Tree → Key → Option Key → Attribute → Option Refusal
file_fault t root None attribute = name_fault attribute.name.now
file_fault t root (Some dir) attribute = create_fault t root dir attribute.name.now (file_of attribute)

-- whether one of the attributes has a file
abbrev pub has_files : List Attribute → Bool
has_files attributes = list_any is_shown attributes

-- the name of the directory that a group makes for its files, or None if the group has no name or no file
abbrev pub own_name : Group → Option (Bor (List ℕ))
own_name group = if has_files group.attributes.now then group.name else None

-- what is wrong with the group's own directory or, if it makes none, with the directory in which its files
-- are to be made; and then what is wrong with its files
abbrev pub cause_by_name : Tree → Key → Key → List Attribute → Option (Bor (List ℕ)) → Option Refusal
cause_by_name t root dir attributes None = first_cause (
    list_cause t dir
    ∷ files_cause (file_fault t root (Some dir)) (shown attributes)
    ∷ [])
cause_by_name t root dir attributes (Some name) = first_cause (
    create_fault t root dir name.now Dir
    ∷ files_cause (file_fault t root None) (shown attributes)
    ∷ [])

-- why a group is refused, apart from a lack of slots or memory
abbrev pub group_cause : Tree → Key → Key → Group → Option Refusal
group_cause t root dir group = cause_by_name t root dir group.attributes.now (own_name group)

-- how many nodes the group has: its files, and its own directory, if it makes one
abbrev pub size_by_name : ℕ → Option (Bor (List ℕ)) → ℕ
size_by_name files None = files
size_by_name files (Some name) = suc files

abbrev pub group_size : Group → ℕ
group_size group = size_by_name (length (shown group.attributes.now)) (own_name group)
