-- When the links that look-ups follow say what the tree says about its live nodes.
use Rattle.std.specs.Prelude.{◌≡◌, ◌≢◌, ◌≤◌, ◌<◌, ◌⊎◌, ℕ, true, false, List, [], ◌∷◌, length, Option, None, Some, IsSomeAnd, if◌then◌else◌}
use Rattle.kf_core.specs.declared.key.Key.{Key}
use Rattle.kf_core.specs.declared.records.Record.{Record}
use Rattle.kf_core.specs.Tree.{Tree, record_at}
use Rattle.kf_table.specs.Live.{lives}
use Rattle.kf_tree.specs.Causes.{doomed_in}
use Rattle.kf_tree.specs.SlotMarks.{contains_key}
use Rattle.kf_looks.specs.declared.found.Found.{Found}
use Rattle.kf_looks.specs.declared.lookup_table.LookupTable.{LookupTable}
use Rattle.kf_looks.specs.declared.view.Link.{Link}
use Rattle.kf_looks.specs.declared.writer.Writer.{Writer}
use Rattle.kf_looks.specs.Writing.{links_of}
use Rattle.kf_core.specs.Lawful.{Lawful}
use Rattle.kf_looks.specs.Lines.{bytes_in}
use Rattle.kf_looks.specs.Links.{link, child_of}
use Rattle.kf_live.specs.declared.telling.Spot.{Spot}

-- what a look-up finds if it finds this record: its key and its node
abbrev pub found_of : Record → Found
found_of r = record { key = r.key; node = r.node }

-- a name of 1 to 24 bytes, which the words can hold
abbrev pub IsShort : List ℕ → Type 0
IsShort name = (1 ≤ length name) × (length name ≤ 24)

-- the tree has this record under this short name in this directory, live or not
pub record StandsAt (t : Tree) (dir : Key) (name : List ℕ) (r : Record) : Type 0 where
  pub known : record_at t r.key ≡ Some r
  pub directory : r.parent ≡ Some dir
  pub named : r.name ≡ name
  pub short : IsShort name

-- what the links find under a name has the key of the record that stands there in the tree. Unless the key is
-- one of these or the directory is doomed, that record is live, and the links find what it says. (In a doomed
-- directory they may still find what was live, which does no harm: no path leads into it)
abbrev pub FindBut : List Key → List Link → Tree → Type 0
FindBut owed links t = (dir : Key) (name : List ℕ) (found : Found) → child_of links dir name ≡ Some found
    → (r : Record) × StandsAt t dir name r × (found.key ≡ r.key)
    × (doomed_in t dir ≡ false → (contains_key owed r.key ≡ true) ⊎ ((lives r ≡ true) × (found ≡ found_of r)))

-- the links are sound: they find only what the tree has, as in `FindBut`, without an exception for any key.
-- So whatever path they lead along in a lawful tree, they lead to what is live there
abbrev pub AreSound : List Link → Tree → Type 0
AreSound links t = FindBut [] links t

-- except about these keys, the links say what the tree says about its live nodes: each live node with a short
-- name is what the links find there, and outside doomed directories they find nothing else. (About these keys
-- they may say nothing yet, or something older)
pub record SayBut (owed : List Key) (links : List Link) (t : Tree) : Type 0 where
  pub told : (dir : Key) (name : List ℕ) (r : Record) → StandsAt t dir name r → lives r ≡ true
      → (contains_key owed r.key ≡ true) ⊎ (child_of links dir name ≡ Some (found_of r))
  pub known : FindBut owed links t

-- the links say what the tree says about its live nodes
abbrev pub Say : List Link → Tree → Type 0
Say links t = SayBut [] links t

-- what look-ups must find for a record: nothing if it is not live
abbrev pub live_found : Record → Option Found
live_found r = if lives r then Some (found_of r) else None

-- no record of the key stands under a short name in a directory
abbrev pub IsOut : Tree → Key → Type 0
IsOut t key = (dir : Key) (name : List ℕ) (r : Record) → StandsAt t dir name r → r.key ≢ key

-- the two trees differ at most at this key
abbrev pub SameBut : Key → Tree → Tree → Type 0
SameBut key old new = (k : Key) → k ≢ key → record_at new k ≡ record_at old k

-- if the key was doomed before, it is doomed afterwards; a key that is not linked counts as doomed
abbrev pub StaysDoomed : Key → Tree → Tree → Type 0
StaysDoomed key old new = doomed_in new key ≡ false → doomed_in old key ≡ false

-- a record of the key stood in this place; or, if there is no place, under no short name in any directory
abbrev pub Stood : Tree → Key → Option Spot → Type 0
Stood t key None = IsOut t key
Stood t key (Some spot) = (r : Record) × (r.key ≡ key) × StandsAt t spot.dir (bytes_in spot.name) r

-- a record of the key stands in this place; or, if there is no place, no record of the key stands under a
-- short name in a doomed directory. (The links may still find a record that is left in a place)
abbrev pub IsLeftAt : Tree → Key → Option Spot → Type 0
IsLeftAt t key None = (dir : Key) (name : List ℕ) (r : Record) → StandsAt t dir name r → r.key ≡ key
    → doomed_in t dir ≡ false
IsLeftAt t key (Some spot) = (r : Record) × (r.key ≡ key) × StandsAt t spot.dir (bytes_in spot.name) r

-- a link was made that gives the name this child; or the name had this child already, and no link was made
abbrev pub IsGiven : Key → List ℕ → Found → List Link → List Link → Type 0
IsGiven dir name child before now = (now ≡ link dir name (Some child) ∷ before)
    ⊎ ((now ≡ before) × (child_of before dir name ≡ Some child))

-- if any slot has words, there is a writer, it belongs to this table, and the fact holds of its links
abbrev pub Writes : LookupTable → (List Link → Type 0) → Option Writer → Type 0
Writes looks Fact writer = 0 < looks.slots
    → IsSomeAnd writer (λ w. (w.seat.table_id ≡ looks.table.shared.table_id) × Fact (links_of w.seat))

-- the links after the name in this place was withdrawn; the same links if there is no place
abbrev pub without : Option Spot → List Link → List Link
without None links = links
without (Some spot) links = link spot.dir (bytes_in spot.name) None ∷ links

-- the links say what an earlier lawful tree says about its live nodes. In that tree a record of the key stood
-- in this place; or, if there is no place, under no short name in any directory. This tree differs from that
-- one at most at this key, and if the key was doomed there, it is doomed here
pub record IsMove (links : List Link) (key : Key) (was : Option Spot) (t : Tree) : Type 0 where
  pub before : Tree
  pub root : Key
  pub lawful : Lawful before root
  pub says : Say links before
  pub stood : Stood before key was
  pub same : SameBut key before t
  pub stays_doomed : StaysDoomed key before t
