-- The canonical list of commands that makes a tree, and by how much dooms of whole subtrees make it shorter.
use Rattle.std.specs.Prelude.{◌≡◌, ◌≢◌, ◌⊎◌, ◌↔◌, ℕ, Bool, false, not, ◌&&◌, List, [], ◌∷◌, ◌++◌, Option, None, Some, IsTrue, Contains, AllPairs, count_by, if◌then◌else◌}
use Rattle.std.specs.Option.{option_map_or}
use Rattle.kf_core.specs.declared.key.Key.{Key}
use Rattle.kf_core.specs.declared.records.Record.{Record}
use Rattle.kf_core.specs.declared.command.Command.{Command}
use Rattle.kf_core.specs.declared.command.Command.TheVariants.{Create, Doom, Hide}
use Rattle.kf_core.specs.Tree.{Tree, record_at, is_linked, in_subtree}
use Rattle.kf_core.specs.PostOrder.{AreApart}
use Rattle.kf_tree.specs.Causes.{doomed_in, hidden_in}

-- a comes before b in pre-order: b is below a, or a and b are apart in this order
abbrev pub Precedes : Tree → Key → Key → Type 0
Precedes t a b = (IsTrue (in_subtree t a b) × (a ≢ b)) ⊎ AreApart t a b

-- the keys of all linked records, each before all keys below it, siblings in byte order of names
pub record IsPreOrder (t : Tree) (keys : List Key) : Type 0 where
  pub members : (key : Key) → Contains keys key ↔ IsTrue (is_linked t key)
  pub ordered : AllPairs (Precedes t) keys

-- the commands of each key, one key after another
abbrev pub collected : (Key → List Command) → List Key → List Command
collected f [] = []
collected f (key ∷ keys) = f key ++ collected f keys

-- the command that creates a record as it is; none for the root, or if there is no record
abbrev pub creation : Option Record → List Command
creation None = []
creation (Some r) =
    option_map_or (λ parent. Create r.key parent r.name r.node r.marks.activated ∷ []) r.parent []

-- the command that creates a key's record; none for a key that is not linked, and for the root
abbrev pub create_of : Tree → Key → List Command
create_of t key = creation (record_at t key)

-- whether a record is doomed, and its directory is not
abbrev pub is_doomed_top : Tree → Key → Bool
is_doomed_top t key = option_map_or (λ r. r.marks.doomed && not (option_map_or (doomed_in t) r.parent false))
    (record_at t key) false

-- the doom of a key that is the top of a doomed subtree; none for any other key
abbrev pub doom_of : Tree → Key → List Command
doom_of t key = if is_doomed_top t key then Doom key ∷ [] else []

-- the hiding of a key whose record is hidden; none for any other key
abbrev pub hide_of : Tree → Key → List Command
hide_of t key = if hidden_in t key then Hide key ∷ [] else []

-- the commands are a creation of each record except the root, then a doom of the top of each doomed subtree,
-- then a hiding of each hidden record, each in pre-order
abbrev pub IsCanonical : Tree → List Command → Type 0
IsCanonical t commands = (keys : List Key) × IsPreOrder t keys
    × (commands ≡ collected (create_of t) keys ++ (collected (doom_of t) keys ++ collected (hide_of t) keys))

-- whether the slot has a doomed record whose directory is doomed too: the doom of the top covers it
abbrev pub is_doomed_inside : Tree → Option Record → Bool
is_doomed_inside t slot =
    option_map_or (λ r. r.marks.doomed && option_map_or (doomed_in t) r.parent false) slot false

-- how many records are doomed inside a doomed directory
abbrev pub doomed_inside_count : Tree → ℕ
doomed_inside_count t = count_by (is_doomed_inside t) t
