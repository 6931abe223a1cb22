-- Which events a change reports.
use Rattle.std.specs.Prelude.{◌≡◌, ◌⊎◌, Bool, true, false, not, ◌&&◌, List, [], ◌∷◌, map, filter, All, Option, None}
use Rattle.std.specs.Option.{option_map_or}
use Rattle.kf_core.specs.declared.key.Key.{Key}
use Rattle.kf_core.specs.declared.refusal.Refusal.{Refusal}
use Rattle.kf_core.specs.declared.refusal.Refusal.TheVariants.{NoSpace}
use Rattle.kf_core.specs.declared.slot.NodeFlags.{NodeFlags}
use Rattle.kf_core.specs.Tree.{Tree, marks_of}
use Rattle.kf_tree.specs.Causes.{Refuses}
use Rattle.kf_tree.specs.Ways.{IsPathOf}
use Rattle.kf_uevents.specs.declared.uevent.Action.{Action}
use Rattle.kf_uevents.specs.declared.uevent.Action.TheVariants.{Add, Remove, Change, Move}
use Rattle.kf_uevents.specs.declared.uevent.Uevent.{Uevent}
use Rattle.kf_uevents.specs.Logs.{LogState, IsUsedUp, Told}

-- whether a node with these marks is reported. An activation reports a node that was not activated, and a
-- removal one that was, and neither reports a doomed node. A change and a move are always reported
abbrev pub tells : Action → NodeFlags → Bool
tells Add m = not m.activated && not m.doomed
tells Remove m = m.activated && not m.doomed
tells Change m = true
tells Move m = true

-- whether the tree has the key, and its node is reported for this action
abbrev pub is_told : Tree → Action → Key → Bool
is_told t action key = option_map_or (tells action) (marks_of t key) false

-- an event of this action, with the path that its node has in the tree, and without an old path
pub record IsEventOf (t : Tree) (root : Key) (action : Action) (event : Uevent) : Type 0 where
  pub acts : event.action ≡ action
  pub path : IsPathOf t root event.key event.path.items
  pub not_moved : event.from ≡ None

-- an event for each of these keys that is reported, in their order
pub record AreNews (t : Tree) (root : Key) (action : Action) (keys : List Key) (events : List Uevent) : Type 0
  where
    pub ordered : map (λ e. e.key) events ≡ filter (is_told t action) keys
    pub each : All (IsEventOf t root action) events

-- for each of these keys that is reported, in their order, one event was reported
abbrev pub NewsTold : Tree → Key → Action → List Key → LogState → LogState → Type 0
NewsTold t root action keys old new = (events : List Uevent) × AreNews t root action keys events
    × Told old new events

-- one event of this action was reported, for this node
abbrev pub OneTold : Tree → Key → Action → Key → LogState → LogState → Type 0
OneTold t root action key old new = (event : Uevent) × (event.key ≡ key) × IsEventOf t root action event
    × Told old new (event ∷ [])

-- this was the cause; or there was no cause, and either there was no memory or no number was left
abbrev pub TellRefused : LogState → Option Refusal → Refusal → Type 0
TellRefused log cause refusal =
    Refuses cause refusal ⊎ ((cause ≡ None) × (refusal ≡ NoSpace) × IsUsedUp log)
