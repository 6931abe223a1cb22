-- What is kept of each directory beside its record, by slot: an index of its children and the number of child
-- directories.
use Rattle.std.specs.Prelude.{◌≡◌, ℕ, ◌+◌, ◌-◌, ◌^◌, ◌<◌, ◌↔◌, Bool, true, false, ◌&&◌, ◌==◌, List, length, slice_get, slice_set, slice_index_or, Option, None, Some, count_by, if◌then◌else◌, refl}
use Rattle.std.specs.Option.{option_and_then, option_map_or}
use Rattle.std.specs.Coded.{Coded, code_by, coded×, coded_ℕ, coded_list}
use Rattle.std.specs.FinMap as map_of
use Rattle.std.specs.Global.{Box}
use Rattle.kf_core.specs.declared.key.Key.{Key}
use Rattle.kf_core.specs.declared.records.Record.{Record}
use Rattle.kf_core.specs.Names.{IsLawfulName}
use Rattle.kf_core.specs.Tree.{Tree, IsIn, is_dir}
use Rattle.kf_index.specs.Entries.{Entries, entries_code}
use Rattle.kf_table.specs.declared.directory.Directory.{Directory}

-- a directory without children
abbrev pub empty_directory : Directory
empty_directory = record { index = map_of.empty; subdirs = 0 }

-- a directory is stored as the pair of its index and its count
abbrev pub directories_code : Coded (List Directory)
directories_code = coded_list (code_by (Entries × ℕ) (coded× entries_code coded_ℕ)
    (λ d. (d.index, d.subdirs)) (λ p. record { index = p.0; subdirs = p.1 }) (λ _. refl))

-- the directory in the box of a slot, or one without children if there is no box
abbrev pub directory_in : Option (Box Directory) → Directory
directory_in None = empty_directory
directory_in (Some kept) = kept.value

-- the directory with one more child
abbrev pub with_child : List ℕ → Key → Bool → Directory → Directory
with_child name key is_subdir d =
    record {
      index = map_of.insert d.index name key;
      subdirs = if is_subdir then d.subdirs + 1 else d.subdirs;
    }

-- the directory without the child of this name
abbrev pub without_child : List ℕ → Bool → Directory → Directory
without_child name is_subdir d =
    record { index = map_of.remove d.index name; subdirs = if is_subdir then d.subdirs - 1 else d.subdirs }

-- the key under a name in the index of a slot
abbrev pub entry_at : List Directory → ℕ → List ℕ → Option Key
entry_at directories slot name = option_and_then (λ d. map_of.get d.index name) (slice_get directories slot)

-- the number of child directories that is kept for a slot
abbrev pub subdirs_at : List Directory → ℕ → ℕ
subdirs_at directories slot = option_map_or (λ d. d.subdirs) (slice_get directories slot) 0

-- the number of names in the index that is kept for a slot
abbrev pub names_at : List Directory → ℕ → ℕ
names_at directories slot = option_map_or (λ d. map_of.len d.index) (slice_get directories slot) 0

-- what is kept, with one more child of the directory in this slot
abbrev pub with_entry : ℕ → List ℕ → Key → Bool → List Directory → List Directory
with_entry slot name key is_subdir directories =
    slice_set directories slot
    (with_child name key is_subdir (slice_index_or directories slot empty_directory))

-- what is kept, with the record as a child of its directory, if it has one
abbrev pub with_record : Record → List Directory → List Directory
with_record r directories = option_map_or
    (λ parent. with_entry parent.slot r.name r.key (is_dir r.node) directories) r.parent directories

-- what is kept, without the child of this name, if there is a parent
abbrev pub without_entry : Option Key → List ℕ → Bool → List Directory → List Directory
without_entry None name is_subdir directories = directories
without_entry (Some parent) name is_subdir directories =
    slice_set directories parent.slot
    (without_child name is_subdir (slice_index_or directories parent.slot empty_directory))

-- what is kept, without the record
abbrev pub without_record : Option Record → List Directory → List Directory
without_record None directories = directories
without_record (Some r) directories = without_entry r.parent r.name (is_dir r.node) directories

-- the name may be added to the index of this slot
pub record HasRoomFor (directories : List Directory) (slot : ℕ) (name : List ℕ) : Type 0 where
  pub within : slot < length directories
  pub lawful_name : IsLawfulName name
  pub absent : entry_at directories slot name ≡ None
  pub few : subdirs_at directories slot + 1 < 2 ^ 64
  pub few_names : names_at directories slot < 2 ^ 32

-- if the record has a parent, its name may be added to the index of the parent's slot
abbrev pub MayInsert : List Directory → Record → Type 0
MayInsert directories r = (parent : Key) → r.parent ≡ Some parent → HasRoomFor directories parent.slot r.name

-- if there is a record and it has a parent, the parent's slot is there, and its count of child directories is
-- above 0 if the record is a directory
abbrev pub MayRemove : List Directory → Option Record → Type 0
MayRemove directories None = Unit {0}
MayRemove directories (Some r) = (parent : Key) → r.parent ≡ Some parent
    → (parent.slot < length directories) × (is_dir r.node ≡ true → 0 < subdirs_at directories parent.slot)

-- whether there is a parent, and it is in this slot
abbrev pub is_slot_of : ℕ → Option Key → Bool
is_slot_of slot None = false
is_slot_of slot (Some parent) = parent.slot == slot

-- whether there is a record, it is a directory, and its parent is in this slot
abbrev pub is_subdir_in : ℕ → Option Record → Bool
is_subdir_in slot None = false
is_subdir_in slot (Some r) = is_slot_of slot r.parent && is_dir r.node

-- a linked record with this key has this name, and its parent is in this slot
pub record IsEntry (t : Tree) (slot : ℕ) (name : List ℕ) (key : Key) : Type 0 where
  pub child : Record
  pub is_in : IsIn t child
  pub has_key : child.key ≡ key
  pub dir : Key
  pub parent : child.parent ≡ Some dir
  pub in_slot : dir.slot ≡ slot
  pub named : child.name ≡ name

-- there are fewer than 2^32 slots, and each has an index. The index leads from the names of the slot's linked
-- children to their keys, and to nothing else. The slot's child directories are counted
pub record AreKept (t : Tree) (directories : List Directory) : Type 0 where
  pub as_many : length directories ≡ length t
  pub few : length t < 2 ^ 32
  pub entries : (slot : ℕ) (name : List ℕ) (key : Key) → (entry_at directories slot name ≡ Some key)
      ↔ IsEntry t slot name key
  pub counted : (slot : ℕ) → slot < length t → subdirs_at directories slot ≡ count_by (is_subdir_in slot) t
