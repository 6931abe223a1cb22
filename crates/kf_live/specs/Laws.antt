-- What look-ups along links find in a tree.
use Rattle.std.specs.Prelude.{◌≡◌, ℕ, true, List, Some, Ok}
use Rattle.kf_core.specs.declared.key.Key.{Key}
use Rattle.kf_core.specs.declared.records.Record.{Record}
use Rattle.kf_core.specs.Lawful.{Lawful}
use Rattle.kf_core.specs.Tree.{Tree, record_at}
use Rattle.kf_table.specs.Live.{lives}
use Rattle.kf_tree.specs.Paths.{seen}
use Rattle.kf_looks.specs.declared.found.Found.{Found}
use Rattle.kf_looks.specs.declared.view.Link.{Link}
use Rattle.kf_looks.specs.Paths.{led}
use Rattle.kf_live.specs.Live.{AreSound, Say, found_of}

-- the path leads in the tree to the key that was found, the record of that key is live, and what was found is
-- what the record says
abbrev pub Leads : Tree → Key → List ℕ → Found → Type 0
Leads t root path found = (seen t root path ≡ Ok found.key)
    × ((r : Record) × (record_at t found.key ≡ Some r) × (lives r ≡ true) × (found ≡ found_of r))

-- if the links say what a lawful tree says about its live nodes, what they lead to along a path is the live
-- node that the path names in the tree, as its record describes it
abbrev pub LeadAlike : Type 0
LeadAlike = (links : List Link) (t : Tree) (root : Key) (path : List ℕ) (found : Found)
    → Say links t → Lawful t root → led links root path ≡ Some found → Leads t root path found

-- the same already holds if the links are sound: they may still lack names
abbrev pub LeadSoundly : Type 0
LeadSoundly = (links : List Link) (t : Tree) (root : Key) (path : List ℕ) (found : Found)
    → AreSound links t → Lawful t root → led links root path ≡ Some found → Leads t root path found
