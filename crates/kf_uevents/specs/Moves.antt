-- What a move reports.
use Rattle.std.specs.Prelude.{◌≡◌, ℕ, List, [], ◌∷◌, ◌++◌, length, nat_le, IsSomeAnd, if◌then◌else◌}
use Rattle.kf_core.specs.declared.key.Key.{Key}
use Rattle.kf_core.specs.Tree.{Tree}
use Rattle.kf_tree.specs.Ways.{IsPathOf}
use Rattle.kf_uevents.specs.declared.uevent.Action.TheVariants.{Move}
use Rattle.kf_uevents.specs.declared.uevent.Uevent.{Uevent}
use Rattle.kf_uevents.specs.Logs.{LogState, Told}

-- the path of a name in the directory of this path. The path of the root already ends with its slash
abbrev pub path_in : List ℕ → List ℕ → List ℕ
path_in path name = path ++ ((if nat_le (length path) 1 then [] else 47 ∷ []) ++ name)

-- the event of a move of this node, from the path that it has in the old tree to the one that it has in the
-- new tree
pub record IsMoveOf (old new : Tree) (root key : Key) (event : Uevent) : Type 0 where
  pub acts : event.action ≡ Move
  pub keyed : event.key ≡ key
  pub path : IsPathOf new root key event.path.items
  pub from : IsSomeAnd event.from (λ from. IsPathOf old root key from.items)

-- one event was reported: a move of this node
abbrev pub MoveTold : Tree → Tree → Key → Key → LogState → LogState → Type 0
MoveTold before after root key old new = (event : Uevent) × IsMoveOf before after root key event
    × Told old new (event ∷ [])

-- the event of a move of this node, from the path that it has in the tree to the path of this name in this
-- directory
pub record IsToMove (t : Tree) (root key dir : Key) (name : List ℕ) (event : Uevent) : Type 0 where
  pub acts : event.action ≡ Move
  pub keyed : event.key ≡ key
  pub above : List ℕ
  pub directory : IsPathOf t root dir above
  pub path : event.path.items ≡ path_in above name
  pub from : IsSomeAnd event.from (λ from. IsPathOf t root key from.items)
