-- The tree and the callers of its nodes.
use Rattle.std.specs.Prelude.{◌≡◌, ◌≢◌, ◌⊎◌, ℕ, ◌+◌, ◌-◌, ◌^◌, ◌<◌, ◌≤◌, Bool, true, false, not, ◌&&◌, ◌==◌, nat_lt, List, [], ◌++◌, length, map, replicate, slice_get, slice_set, slice_index, Option, Some, None, IsTrue, IsFalse}
use Rattle.std.specs.List.{list_any}
use Rattle.kf_core.specs.declared.key.Key.{Key}
use Rattle.kf_core.specs.declared.slot.SlotState.{SlotState}
use Rattle.kf_core.specs.declared.slot.NodeFlags.{NodeFlags}
use Rattle.kf_core.specs.declared.caller.Phase.{Phase}
use Rattle.kf_core.specs.declared.caller.Phase.TheVariants.{Hidden, Spent}
use Rattle.kf_core.specs.declared.caller.Caller.{Caller}
use Rattle.kf_core.specs.declared.records.Record.{Record}
use Rattle.kf_core.specs.declared.command.Command.{Command}
use Rattle.kf_core.specs.Phases.{is_waiting, has_reference, is_hiding, is_spent}
use Rattle.kf_core.specs.Bare.{BareWorld, marks}
use Rattle.kf_world.specs.Bounded.{BoundedWorld, hold_count}
use Rattle.kf_core.specs.Tree.{Tree, in_subtree}
use Rattle.kf_core.specs.declared.refusal.Refusal.{Refusal}
use Rattle.kf_core.specs.declared.refusal.Refusal.TheVariants.{TooManyHolds, NoMemory}
use Rattle.kf_core.specs.Commands.{replay, root_alone}
use Rattle.kf_tree.specs.SlotMarks.{SameMarks}
use Rattle.kf_tree.specs.TreeLogs.{TreeLog, IsKept}

-- the tree with its stored commands, the last generation of each slot, the limit of holds, and the callers by
-- their number
pub record Nodes : Type 0 where
  pub log : TreeLog
  pub last : List ℕ
  pub limit : ℕ
  pub callers : List Caller

-- the last generation of each slot
abbrev pub last_of : List SlotState → List ℕ
last_of slots = map (λ (s : SlotState). s.generation) slots

-- the tree and the callers as one value
abbrev pub nodes_of : TreeLog → BoundedWorld → Nodes
nodes_of log w =
    record { log = log; last = last_of w.world.slots; limit = w.limit; callers = w.world.callers }

-- the tree is lawful, and the replay of its commands; the tree and the world have the same number of slots,
-- and the same linked, activated and doomed keys
pub record AreTied (log : TreeLog) (w : BareWorld) : Type 0 where
  pub kept : IsKept log
  -- between two commands no linked node is doomed: a removal takes out what it dooms
  pub undoomed : (key : Key) (m : NodeFlags) → marks w key ≡ Some m → m.doomed ≡ false
  pub marks : SameMarks w.slots log.tree
  pub slots : length w.slots ≡ length log.tree

-- the last generations, the limit and the callers of the world are as they were
pub record OnlyMarks (old new : BoundedWorld) : Type 0 where
  pub last : last_of new.world.slots ≡ last_of old.world.slots
  pub limit : new.limit ≡ old.limit
  pub callers : new.world.callers ≡ old.world.callers

-- the log after these commands; no key is ready to be hidden
abbrev pub logged : TreeLog → List Command → TreeLog
logged log cs =
    record { root = log.root; tree = replay log.tree cs; commands = log.commands ++ cs; ready = None }

-- the same tree, with these stored commands; no key is ready to be hidden
abbrev pub listed : TreeLog → List Command → TreeLog
listed log cs = record { root = log.root; tree = log.tree; commands = cs; ready = None }

-- the root's key, if the root's slot has had this many generations before
abbrev pub root_key : ℕ → Key
root_key start = record { slot = 0; generation = start + 1 }

-- a tree of only the root, and no callers, if each slot has had this many generations before
abbrev pub new_nodes : ℕ → ℕ → ℕ → Nodes
new_nodes slots holds start = record {
  log =
      record { root = root_key start; tree = root_alone slots (root_key start); commands = []; ready = None };
  last = slice_set (replicate slots start) 0 (start + 1);
  limit = holds;
  callers = [];
}

-- ---- callers

-- the caller of this number holds the key, and may try for a reference
pub record Waits (callers : List Caller) (id : ℕ) (key : Key) : Type 0 where
  pub phase : Phase
  pub there : slice_get callers id ≡ Some (record { key = key; phase = phase })
  pub waits : IsTrue (is_waiting phase)

-- whether the caller's key is in this slot, and the caller has not released it
abbrev pub holds_slot : ℕ → Caller → Bool
holds_slot slot c = (c.key.slot == slot) && not (is_spent c.phase)

-- no caller has a reference
abbrev pub AllIdle : List Caller → Type 0
AllIdle callers = (id : ℕ) (key : Key) (phase : Phase)
    → slice_get callers id ≡ Some (record { key = key; phase = phase }) → IsFalse (has_reference phase)

-- the callers are as before, except that this caller may have another phase in which it waits
abbrev pub StillWaits : List Caller → ℕ → Key → List Caller → Type 0
StillWaits callers id key callers' = (callers' ≡ callers)
    ⊎ ((phase : Phase) × IsTrue (is_waiting phase)
    × (callers' ≡ slice_set callers id (record { key = key; phase = phase })))

-- why a hold of a linked node is refused: its slot already has the greatest number of holds; or it has
-- fewer, and there was no memory
abbrev pub NodePinRefused : Nodes → Key → Refusal → Type 0
NodePinRefused n key TooManyHolds = n.limit ≤ hold_count n.callers key.slot
NodePinRefused n key NoMemory = hold_count n.callers key.slot < n.limit
NodePinRefused n key _ = ⊥

-- a caller that has released the key
abbrev pub spent_on : Key → Caller
spent_on key = record { key = key; phase = Spent }

-- a caller that hides the key, and saw that nobody has a reference
abbrev pub hidden_on : Key → Caller
hidden_on key = record { key = key; phase = Hidden }

-- no caller on this slot hides a node
abbrev pub NoneHides : List Caller → ℕ → Type 0
NoneHides callers slot = (id : ℕ) (key : Key) (phase : Phase)
    → slice_get callers id ≡ Some (record { key = key; phase = phase }) → IsTrue (is_hiding phase)
    → key.slot ≢ slot

-- callers were added, which have released these keys; all else is as before
abbrev pub with_spent : Nodes → List Key → Nodes
with_spent n keys = record n { callers = n.callers ++ map spent_on keys }

-- ---- free slots

-- whether the slot exists, and no node is in it
abbrev pub is_vacant : Option (Option Record) → Bool
is_vacant None = false
is_vacant (Some None) = true
is_vacant (Some (Some r)) = false

-- whether the slot exists, has no linked node and no hold, and has a generation left
abbrev pub is_free : Tree → List ℕ → (ℕ → ℕ) → ℕ → Bool
is_free tree last count slot =
    is_vacant (slice_get tree slot) && count slot == 0 && nat_lt (slice_index last slot) (2 ^ 32 - 1)

-- the next key of the lowest free slot, except the root's; none if no slot is free
abbrev pub IsFreeKeyOf : Tree → List ℕ → (ℕ → ℕ) → Option Key → Type 0
IsFreeKeyOf tree last count None = (slot : ℕ) → 1 ≤ slot → IsFalse (is_free tree last count slot)
IsFreeKeyOf tree last count (Some key) =
    (1 ≤ key.slot) × IsTrue (is_free tree last count key.slot)
    × (key.generation ≡ slice_index last key.slot + 1)
    × ((slot : ℕ) → 1 ≤ slot → slot < key.slot → IsFalse (is_free tree last count slot))

-- ---- removals

-- whether the slot has a node of the subtree that already has the greatest number of holds
abbrev pub is_full_in : Tree → (ℕ → ℕ) → ℕ → Key → Option Record → Bool
is_full_in tree count limit top None = false
is_full_in tree count limit top (Some r) =
    in_subtree tree top r.key && not (nat_lt (count r.key.slot) limit)

-- whether some node of the subtree already has the greatest number of holds, so that a removal cannot hold it
abbrev pub is_full_below : Tree → (ℕ → ℕ) → ℕ → Key → Bool
is_full_below tree count limit top = list_any (is_full_in tree count limit top) tree

-- the same for these nodes
abbrev pub has_full_below : Nodes → Key → Bool
has_full_below n top = is_full_below n.log.tree (hold_count n.callers) n.limit top
