-- The tree after each stored command, and the replay of a list of commands.
use Rattle.std.specs.Prelude.{ℕ, Bool, true, false, not, ◌&&◌, List, [], ◌∷◌, map, replicate, slice_set, None, Some, if◌then◌else◌}
use Rattle.std.specs.Option.{option_map}
use Rattle.kf_core.specs.declared.key.Key.{Key}
use Rattle.kf_core.specs.declared.key.Node.{Node}
use Rattle.kf_core.specs.declared.records.Record.{Record}
use Rattle.kf_core.specs.declared.command.Command.{Command}
use Rattle.kf_core.specs.declared.command.Command.TheVariants.{Create, Activate, Doom, Unlink, Rename, Hide, Show}
use Rattle.kf_core.specs.Keys.{same_key}
use Rattle.kf_core.specs.Tree.{Tree, is_linked, in_subtree}
use Rattle.kf_core.specs.Lawful.{root_record}

-- the tree in which each chosen record is changed
abbrev pub change : (Record → Bool) → (Record → Record) → Tree → Tree
change chosen f t = map (option_map (λ r. if chosen r then f r else r)) t

-- the record as an activated one, doomed or not as before
abbrev pub activated_record : Record → Record
activated_record r = record r { marks = record { activated = true; doomed = r.marks.doomed } }

-- the record as a doomed one, activated or not as before
abbrev pub doomed_record : Record → Record
doomed_record r = record r { marks = record { activated = r.marks.activated; doomed = true } }

-- the record, hidden or shown
abbrev pub hidden_record : Bool → Record → Record
hidden_record b r = record r { hidden = b }

-- the record moved to this directory, under this name
abbrev pub moved_record : Key → List ℕ → Record → Record
moved_record dir name r = record r { parent = Some dir; name = name }

-- the record of a new node, activated at once or not, neither doomed nor hidden
abbrev pub new_record : Key → Key → List ℕ → Node → Bool → Record
new_record key parent name node is_live = record {
  key = key;
  parent = Some parent;
  name = name;
  node = node;
  marks = record { activated = is_live; doomed = false };
  hidden = false;
}

-- the tree after a command, which is never refused
abbrev pub after : Tree → Command → Tree
after t (Create key parent name node is_live) =
    slice_set t key.slot (Some (new_record key parent name node is_live))
after t (Activate key) = change (λ r. in_subtree t key r.key && not r.marks.doomed) activated_record t
after t (Doom key) = change (λ r. in_subtree t key r.key) doomed_record t
after t (Unlink key) = if is_linked t key then slice_set t key.slot None else t
after t (Rename key dir name) = change (λ r. same_key r.key key) (moved_record dir name) t
after t (Hide key) = change (λ r. same_key r.key key) (hidden_record true) t
after t (Show key) = change (λ r. same_key r.key key) (hidden_record false) t

-- the tree that has only the root, and this many slots
abbrev pub root_alone : ℕ → Key → Tree
root_alone count root = slice_set (replicate count None) root.slot (Some (root_record root))

-- the tree after these commands, in their order
abbrev pub replay : Tree → List Command → Tree
replay t [] = t
replay t (c ∷ cs) = replay (after t c) cs
