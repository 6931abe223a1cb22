-- What the commands that make, activate and move nodes do.
use Rattle.std.specs.Prelude.{ℕ, Bool, List, [], ◌∷◌, slice_set, Option, Some, None, Result, if◌then◌else◌}
use Rattle.kf_core.specs.declared.key.Key.{Key}
use Rattle.kf_core.specs.declared.key.Node.{Node}
use Rattle.kf_core.specs.declared.key.Node.TheVariants.{File, Link}
use Rattle.kf_core.specs.declared.command.Command.TheVariants.{Create, Rename}
use Rattle.kf_core.specs.declared.refusal.Refusal.{Refusal}
use Rattle.kf_tree.specs.Paths.{and_then, walked, walked_parent}
use Rattle.kf_tree.specs.Causes.{create_cause, linked_cause, rename_cause}
use Rattle.kf_table.specs.Children.{is_there_already}
use Rattle.kf_tree.specs.TreeLogs.{TreeLog}
use Rattle.kf_plain.specs.Nodes.{Nodes, logged}
use Rattle.kf_plain.specs.Plain.{Plain, with_commands}
use Rattle.kf_plain.specs.Settled.{ok_unless}

-- ---- making a node

-- the place of a new node: its directory and its name
pub record Spot : Type 0 where
  pub dir : Key
  pub name : List ℕ

-- the spot of a new node at a path, under the next key
abbrev pub new_spot : TreeLog → List ℕ → Node → Option Key → Result Spot Refusal
new_spot log path node next = and_then (walked_parent log.tree log.root path) (λ at.
    ok_unless (create_cause log.tree log.root at.0 at.1 node next) (record { dir = at.0; name = at.1 }))

-- the target and the spot of a new link: it leads to the node at another path, and is made under the next key
abbrev pub new_link_spot : TreeLog → List ℕ → List ℕ → Option Key → Result (Key × Spot) Refusal
new_link_spot log path target next = and_then (walked_parent log.tree log.root path) (λ at.
    and_then (walked log.tree log.root target) (λ to.
    ok_unless (create_cause log.tree log.root at.0 at.1 (Link to) next)
    (to, record { dir = at.0; name = at.1 })))

-- a new file of this mode, under the next key: its tag is the number of its slot, by which its callbacks find
-- its text
abbrev pub file_node : ℕ → Option Key → Node
file_node mode None = File mode 0
file_node mode (Some key) = File mode key.slot

-- the nodes with one more node, under this key
abbrev pub with_born : Nodes → Key → Spot → Node → Bool → Nodes
with_born n key spot node is_live = record n {
  log = logged n.log
      (Create key spot.dir spot.name node is_live ∷ []);
  last = slice_set n.last key.slot key.generation;
}

-- the board with one more node, under this key; the slot's last generation is now that of the key
abbrev pub with_node : Plain → Key → Spot → Node → Bool → Plain
with_node b key spot node is_live = record (with_commands b
    (Create key spot.dir spot.name node is_live ∷ [])) { last = slice_set b.last key.slot key.generation }

-- ---- activating and moving

-- the key whose subtree an activation by path activates, or why the activation is refused
abbrev pub activated_key : TreeLog → List ℕ → Result Key Refusal
activated_key log path =
    and_then (walked log.tree log.root path) (λ key. ok_unless (linked_cause log.tree key) key)

-- the node that moves, and the directory that it moves into, or why the move is refused
abbrev pub moved_key : TreeLog → List ℕ → List ℕ → List ℕ → Result (Key × Key) Refusal
moved_key log path dir name = and_then (walked log.tree log.root path) (λ key.
    and_then (walked log.tree log.root dir) (λ into.
    ok_unless (rename_cause log.tree log.root key into name) (key, into)))

-- the nodes after a move: as they were if the node is there already
abbrev pub moved_nodes : Nodes → Key → Key → List ℕ → Nodes
moved_nodes n key into name = if is_there_already n.log.tree key into name then n else record n
    { log = logged n.log (Rename key into name ∷ []) }

-- the board after a move: a node that is there already stays, and nothing is stored
abbrev pub with_move : Plain → Key → Key → List ℕ → Plain
with_move b key into name =
    if is_there_already b.log.tree key into name then b else with_commands b (Rename key into name ∷ [])
