-- Lawful trees.
use Rattle.std.specs.Prelude.{◌≡◌, ℕ, ◌≤◌, true, false, [], slice_get, None, Some, is_some, count_by}
use Rattle.kf_core.specs.declared.key.Key.{Key}
use Rattle.kf_core.specs.declared.key.Node.TheVariants.{Dir}
use Rattle.kf_core.specs.declared.records.Record.{Record}
use Rattle.kf_core.specs.Names.{IsLawfulName}
use Rattle.kf_core.specs.Marks.{live_marks}
use Rattle.kf_core.specs.Tree.{Tree, record_at, IsIn, ancestor}

-- the root: a live directory without a parent
abbrev pub root_record : Key → Record
root_record key =
    record { key = key; parent = None; name = []; node = Dir; marks = live_marks; hidden = false }

-- the record's parent is a directory of the tree; if that directory is doomed, so is the record; and the name
-- of the record is lawful
pub record HasDirectory (t : Tree) (r : Record) (parent : Key) : Type 0 where
  pub dir : Record
  pub known : record_at t parent ≡ Some dir
  pub is_dir : dir.node ≡ Dir
  pub doomed : dir.marks.doomed ≡ true → r.marks.doomed ≡ true
  pub lawful_name : IsLawfulName r.name

-- the records are one tree: a live root directory, each other record below it in a directory, and no two
-- siblings with one name
pub record Lawful (t : Tree) (root : Key) : Type 0 where
  -- each record is in the slot of its key, so no two records have the same key
  pub in_place : (slot : ℕ) (r : Record) → slice_get t slot ≡ Some (Some r) → r.key.slot ≡ slot
  -- the root is a live directory
  pub rooted : IsIn t (root_record root)
  -- the root is the only record without a parent
  pub one_root : (r : Record) → IsIn t r → r.parent ≡ None → r.key ≡ root
  -- each other record has a lawful name, is in a directory, and is doomed if the directory is
  pub in_directory : (r : Record) (parent : Key) → IsIn t r → r.parent ≡ Some parent → HasDirectory t r parent
  -- siblings have different names
  pub siblings : (r s : Record) → IsIn t r → IsIn t s → r.parent ≡ s.parent → r.name ≡ s.name → r.key ≡ s.key
  -- following parents reaches the root within as many steps as there are records
  pub reaches : (r : Record) → IsIn t r → (n : ℕ) × (n ≤ count_by is_some t)
      × (ancestor t n r.key ≡ Some root)
