-- What a removal does.
use Rattle.std.specs.Prelude.{ℕ, not, List, [], ◌∷◌, map, Option, Result}
use Rattle.kf_core.specs.declared.key.Key.{Key}
use Rattle.kf_core.specs.declared.command.Command.TheVariants.{Doom, Unlink}
use Rattle.kf_core.specs.declared.refusal.Refusal.{Refusal}
use Rattle.kf_core.specs.declared.refusal.Refusal.TheVariants.{TooManyHolds}
use Rattle.kf_core.specs.Refusals.{unless, first_cause}
use Rattle.kf_tree.specs.TreeLogs.{TreeLog}
use Rattle.kf_tree.specs.Paths.{and_then, walked}
use Rattle.kf_tree.specs.Causes.{doom_cause}
use Rattle.kf_plain.specs.Nodes.{is_full_below}
use Rattle.kf_plain.specs.Plain.{Plain, with_commands}
use Rattle.kf_plain.specs.Settled.{ok_unless}

-- why a removal is refused: the node is not linked, or is the root, or a node of the subtree has no room for
-- one more hold
abbrev pub remove_cause : TreeLog → (ℕ → ℕ) → ℕ → Key → Option Refusal
remove_cause log holds limit key = first_cause (
    doom_cause log.tree log.root key
    ∷ unless (not (is_full_below log.tree holds limit key)) TooManyHolds
    ∷ [])

-- the key whose subtree a removal by path removes, or why the removal is refused
abbrev pub removed_key : TreeLog → (ℕ → ℕ) → ℕ → List ℕ → Result Key Refusal
removed_key log holds limit path =
    and_then (walked log.tree log.root path) (λ key. ok_unless (remove_cause log holds limit key) key)

-- the node at a path, if nothing but a lack of holds or memory can refuse its removal; the removal takes
-- holds of its subtree
abbrev pub remove_held : TreeLog → List ℕ → Result Key Refusal
remove_held log path =
    and_then (walked log.tree log.root path) (λ key. ok_unless (doom_cause log.tree log.root key) key)

-- the board after the subtree was doomed, and its nodes then left the tree in this order
abbrev pub without : Plain → Key → List Key → Plain
without b key keys = with_commands b (Doom key ∷ map Unlink keys)
