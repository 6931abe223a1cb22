-- The world: each slot with its last generation and the record of its linked node, and the callers. One
-- atomic step of it, and runs of steps. The struct `World` of kf_world keeps the bare half of this, and the
-- limit of holds.
use Rattle.std.specs.Prelude.{◌≡◌, ◌≢◌, ℕ, ◌+◌, false, List, [], ◌∷◌, map, replicate, slice_get, slice_set, Option, None, Some, IsFalse}
use Rattle.std.specs.Option.{option_map}
use Rattle.kf_core.specs.declared.key.Key.{Key}
use Rattle.kf_core.specs.declared.key.Node.TheVariants.{Dir}
use Rattle.kf_core.specs.declared.caller.Phase.{Phase}
use Rattle.kf_core.specs.declared.caller.Caller.{Caller}
use Rattle.kf_core.specs.declared.slot.SlotState.{SlotState}
use Rattle.kf_core.specs.declared.records.Record.{Record}
use Rattle.kf_core.specs.declared.command.Command.TheVariants.{Create, Rename, Unlink as TakeOut, Hide as HideNode, Show as ShowNode}
use Rattle.kf_core.specs.declared.event.Event.{Event}
use Rattle.kf_core.specs.declared.event.Event.TheVariants.{Born, Rise, Mark, Move, Pin, Enter, Leave, Break, Restore, Look, Unlink, Part, Hide, LookHidden, Show, Release, Undo}
use Rattle.kf_core.specs.Keys.{same_key}
use Rattle.kf_core.specs.Names.{IsLawfulName}
use Rattle.kf_core.specs.Marks.{live_marks}
use Rattle.kf_core.specs.Bare.{BareWorld, IsCaller}
use Rattle.kf_core.specs.Steps.{BareStep}
use Rattle.kf_core.specs.Tree.{Tree, record_at, in_subtree}
use Rattle.kf_core.specs.Lawful.{root_record}
use Rattle.kf_core.specs.Commands.{change, activated_record, doomed_record, after}

-- a slot: its last generation, and the record of its node if one is linked
pub record Slot : Type 0 where
  pub last : ℕ
  pub linked : Option Record

-- the slots with their records, and the callers with their keys and phases
pub record World : Type 0 where
  pub slots : List Slot  -- by slot
  pub callers : List Caller  -- by the number of the caller

-- the tree of a world: by slot, the record of the linked node
abbrev pub tree : World → Tree
tree w = map (λ (s : Slot). s.linked) w.slots

-- a slot without the parent, name, node and hidden mark of its record
abbrev pub bare_slot : Slot → SlotState
bare_slot s = record { generation = s.last; marks = option_map (λ (r : Record). r.marks) s.linked }

-- the world without parents, names, nodes and hidden marks
abbrev pub bare : World → BareWorld
bare w = record { slots = map bare_slot w.slots; callers = w.callers }

-- the world that has only the root, live in slot 0, and no callers
abbrev pub opening : ℕ → ℕ → World
opening count start = record {
  slots = slice_set (replicate count (record { last = start; linked = None })) 0
      (record {
        last = start + 1;
        linked = Some (root_record (record { slot = 0; generation = start + 1 }));
      });
  callers = [];
}

-- no record has this parent
abbrev pub NoChild : Tree → Key → Type 0
NoChild t key = (slot : ℕ) (r : Record) → slice_get t slot ≡ Some (Some r) → r.parent ≢ Some key

-- the rename of the key is not refused, and changes its directory, its name, or both
pub record MayMove (t : Tree) (key dir : Key) (name : List ℕ) : Type 0 where
  pub moving : Record
  pub found : record_at t key ≡ Some moving
  pub no_root : moving.parent ≢ None
  pub is_live : moving.marks ≡ live_marks
  pub is_shown : moving.hidden ≡ false
  pub into : Record
  pub into_found : record_at t dir ≡ Some into
  pub into_dir : into.node ≡ Dir
  pub into_is_live : into.marks ≡ live_marks
  pub into_is_shown : into.hidden ≡ false
  pub lawful : IsLawfulName name
  pub not_below : IsFalse (in_subtree t key dir)
  pub free : (slot : ℕ) (r : Record) → slice_get t slot ≡ Some (Some r) → r.parent ≡ Some dir → r.name ≢ name

-- the tree after a step
abbrev pub TreeStep : World → Event → Tree → Type 0
TreeStep w (Born key parent name node) t' = t' ≡ after (tree w) (Create key parent name node false)
TreeStep w (Rise key) t' = t' ≡ change (λ r. same_key r.key key) activated_record (tree w)
TreeStep w (Mark key) t' = t' ≡ change (λ r. same_key r.key key) doomed_record (tree w)
TreeStep w (Move key dir name) t' =
    MayMove (tree w) key dir name × (t' ≡ after (tree w) (Rename key dir name))
TreeStep w (Unlink c) t' = (key : Key) × (phase : Phase) × IsCaller (bare w) c key phase
    × NoChild (tree w) key × (t' ≡ after (tree w) (TakeOut key))
TreeStep w (Hide c) t' =
    (key : Key) × (phase : Phase) × IsCaller (bare w) c key phase × (t' ≡ after (tree w) (HideNode key))
TreeStep w (Show c) t' =
    (key : Key) × (phase : Phase) × IsCaller (bare w) c key phase × (t' ≡ after (tree w) (ShowNode key))
TreeStep w (Pin c key) t' = t' ≡ tree w
TreeStep w (Enter c) t' = t' ≡ tree w
TreeStep w (Leave c) t' = t' ≡ tree w
TreeStep w (Break c) t' = t' ≡ tree w
TreeStep w (Restore c) t' = t' ≡ tree w
TreeStep w (Look c) t' = t' ≡ tree w
TreeStep w (Part c) t' = t' ≡ tree w
TreeStep w (LookHidden c) t' = t' ≡ tree w
TreeStep w (Release c) t' = t' ≡ tree w
TreeStep w (Undo c) t' = t' ≡ tree w

-- one atomic step: of the bare world, and of the tree
pub record Step (w : World) (event : Event) (w' : World) : Type 0 where
  pub bare_step : BareStep (bare w) event (bare w')
  pub tree_step : TreeStep w event (tree w')

-- these events, each a step from the world before it
abbrev pub Run : World → List Event → World → Type 0
Run w [] w' = w' ≡ w
Run w (event ∷ events) w' = (between : World) × Step w event between × Run between events w'
