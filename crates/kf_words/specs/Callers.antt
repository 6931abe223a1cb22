-- What contracts see of a caller's seat, and what each call says about it.
use Rattle.std.specs.Prelude.{◌≡◌, ℕ, ◌+◌, Bool, true, false, Option}
pub use Rattle.atomic_table.specs.Seated.{TableId}
use Rattle.kf_core.specs.declared.key.Key.{Key}
use Rattle.kf_core.specs.declared.key.Node.{Node}
use Rattle.kf_core.specs.declared.caller.Phase.{Phase}
use Rattle.kf_core.specs.declared.caller.Phase.TheVariants.{Still, Turned, Running, Broken, Restored, Drained, Parted, Hiding, Hidden, Spent}
use Rattle.kf_core.specs.Phases.{has_reference, is_waiting}
use Rattle.kf_core.specs.declared.key.Node.TheVariants as node
use Rattle.kf_words.specs.declared.seat.CallerSeat.{CallerSeat}
use Rattle.kf_words.specs.declared.seat.NodeKind.{NodeKind}
use Rattle.kf_words.specs.declared.seat.NodeKind.TheVariants as kind
use Rattle.kf_words.specs.declared.wake_due.Wake.{Wake}
use Rattle.kf_words.specs.declared.wake_due.Wake.TheVariants.{Wanted, Unwanted}
use Rattle.kf_words.specs.declared.view.CallerView.{CallerView}
use Rattle.kf_words.specs.declared.sight.Seen.{Seen}
use Rattle.kf_words.specs.declared.sight.Sight.{Sight}
use Rattle.kf_words.specs.Layout.{keeps_out, is_drained, has_hide, is_unused, has_linked}
use Rattle.kf_words.specs.Steps.{caller_of}

-- what contracts see of a hold, call or receipt: its seat, its key and node, and what it has done so far
pub record Handle : Type 0 where
  pub table : TableId  -- which table of words
  pub seat : ℕ  -- which seat there
  pub key : Key
  pub node : Node  -- what was born with the key
  pub phase : Phase
  pub steps : ℕ  -- how many word steps it has made
  pub tries : ℕ  -- how many of them were tries
  pub found : ℕ  -- the word that its last step found, not counting the second step of a refused try
  pub undo_due : Bool  -- it is between the two steps of a refused try; no hold, call or receipt is
  pub pinning : Option Key  -- the key of a hold that it counted, with no seat yet; None in a hold or call
  pub seen : Seen  -- the beginning of the one run of all steps at the table that it has seen

-- which seat of which table, and the node that was born with its key
pub record SeatId : Type 0 where
  pub table : TableId
  pub seat : ℕ
  pub node : Node

-- which seat it is, and the node that was born with its key
abbrev pub id_of : Handle → SeatId
id_of h = record { table = h.table; seat = h.seat; node = h.node }

-- what a caller's seat knows: its view, and the beginning of the one run that it has seen
pub record CallerSight : Type 0 where
  pub view : CallerView
  pub seen : Seen

-- what a seat knows, if it is a caller's
abbrev pub caller_sight : Sight → CallerSight
caller_sight s = record { view = caller_of s.view; seen = s.seen }

-- the caller's view, which is in the token of its seat
abbrev pub view_of : CallerSeat → CallerView
view_of s = caller_of s.token.me.0.view

-- all that the token of a caller's seat knows
abbrev pub sight_of : CallerSeat → CallerSight
sight_of s = caller_sight s.token.me.0

-- the node of this kind, with this tag if it is a file, and this target if it is a link
abbrev pub node_of : NodeKind → ℕ → Key → Node
node_of kind.Dir _ _ = node.Dir
node_of (kind.File mode) tag _ = node.File mode tag
node_of kind.Link _ target = node.Link target

-- what contracts see of this seat
abbrev pub handle_of : CallerSeat → Handle
handle_of s = record {
  table = s.token.table_id;
  seat = s.token.id;
  key = (view_of s).key;
  node = node_of s.kind s.tag s.target;
  phase = (view_of s).phase;
  steps = (view_of s).steps;
  tries = (view_of s).tries;
  found = (view_of s).found;
  undo_due = (view_of s).undo_due;
  pinning = (view_of s).pinning;
  seen = s.token.me.0.seen;
}

-- it is still the same seat of the same table, with the same key and node
pub record IsSameSeat (old new : Handle) : Type 0 where
  pub table : new.table ≡ old.table
  pub seat : new.seat ≡ old.seat
  pub key : new.key ≡ old.key
  pub node : new.node ≡ old.node

-- the same seat, which has now seen this beginning of the run and is otherwise as it was
abbrev pub having_seen : Seen → Handle → Handle
having_seen seen h = record h { seen = seen }

-- the phases of a call
abbrev pub is_in_call : Phase → Bool
is_in_call Still = false
is_in_call Turned = false
is_in_call Running = true
is_in_call Broken = true
is_in_call Restored = true
is_in_call Drained = false
is_in_call Parted = false
is_in_call Hiding = false
is_in_call Hidden = false
is_in_call Spent = false

-- the caller is Still or Turned, and has no try to undo
abbrev pub IsAtRest : CallerView → Type 0
IsAtRest c = (is_waiting c.phase ≡ true) × (c.undo_due ≡ false)

-- the caller has a reference, and no try to undo
abbrev pub HasReference : CallerView → Type 0
HasReference c = (has_reference c.phase ≡ true) × (c.undo_due ≡ false)

-- the seat is in this phase, and has no try to undo
abbrev pub IsInPhase : Phase → CallerView → Type 0
IsInPhase phase c = (c.phase ≡ phase) × (c.undo_due ≡ false)

-- its one step was a try, which found a word that lets it in
abbrev pub Entered : Handle → Handle → Type 0
Entered before after = (after.phase ≡ Running) × (after.steps ≡ before.steps + 1)
    × (keeps_out after.found ≡ false) × (after.tries ≡ before.tries + 1)

-- its try found a word that keeps it out, and a second step undid the try
abbrev pub WasTurned : Handle → Handle → Type 0
WasTurned before after = (after.phase ≡ Turned) × (after.steps ≡ before.steps + 2)
    × (keeps_out after.found ≡ true) × (after.tries ≡ before.tries + 1)

-- its one step found the word drained
abbrev pub SawDrained : Handle → Handle → Type 0
SawDrained before after =
    (after.phase ≡ Drained) × (after.steps ≡ before.steps + 1) × (is_drained after.found ≡ true)

-- its one step found a word that is not drained
abbrev pub SawUse : Handle → Handle → Type 0
SawUse before after =
    (after.phase ≡ before.phase) × (after.steps ≡ before.steps + 1) × (is_drained after.found ≡ false)

-- one step ended the call
abbrev pub WasLeft : Handle → Handle → Type 0
WasLeft before after = (after.phase ≡ Still) × (after.steps ≡ before.steps + 1)

-- one step gave up the reference inside the call
abbrev pub WasBroken : Handle → Handle → Type 0
WasBroken before after = (after.phase ≡ Broken) × (after.steps ≡ before.steps + 1)

-- one step took a reference again
abbrev pub WasRestored : Handle → Handle → Type 0
WasRestored before after = (after.phase ≡ Restored) × (after.steps ≡ before.steps + 1)

-- its one step found no node linked
abbrev pub SawParted : Handle → Handle → Type 0
SawParted before after =
    (after.phase ≡ Parted) × (after.steps ≡ before.steps + 1) × (has_linked after.found ≡ false)

-- its one step found the node linked
abbrev pub SawLinked : Handle → Handle → Type 0
SawLinked before after =
    (after.phase ≡ before.phase) × (after.steps ≡ before.steps + 1) × (has_linked after.found ≡ true)

-- its one step found the bit HIDE clear, and set it
abbrev pub WasHidden : Handle → Handle → Type 0
WasHidden before after =
    (after.phase ≡ Hiding) × (after.steps ≡ before.steps + 1) × (has_hide after.found ≡ false)

-- its one step found the bit HIDE set
abbrev pub FoundHidden : Handle → Handle → Type 0
FoundHidden before after =
    (after.phase ≡ before.phase) × (after.steps ≡ before.steps + 1) × (has_hide after.found ≡ true)

-- its one step found nobody who uses the node
abbrev pub SawUnused : Handle → Handle → Type 0
SawUnused before after =
    (after.phase ≡ Hidden) × (after.steps ≡ before.steps + 1) × (is_unused after.found ≡ true)

-- its one step found somebody who uses the node
abbrev pub SawUser : Handle → Handle → Type 0
SawUser before after =
    (after.phase ≡ before.phase) × (after.steps ≡ before.steps + 1) × (is_unused after.found ≡ false)

-- its one step found the bit HIDE set, and cleared it
abbrev pub WasShown : Handle → Handle → Type 0
WasShown before after =
    (after.phase ≡ Still) × (after.steps ≡ before.steps + 1) × (has_hide after.found ≡ true)

-- one step released the hold of the slot
abbrev pub WasReleased : Handle → Handle → Type 0
WasReleased before after = (after.phase ≡ Spent) × (after.steps ≡ before.steps + 1)

-- what the seat knows
abbrev pub seat_view : Handle → CallerSight
seat_view h = record {
  view = record {
    key = h.key;
    phase = h.phase;
    steps = h.steps;
    tries = h.tries;
    found = h.found;
    undo_due = h.undo_due;
    pinning = h.pinning;
  };
  seen = h.seen;
}

-- what a step owes to the sleepers at an active word if it found this word in this slot, and took one user
-- off it. It owes a wake if one of them may be waiting for the word that is left without that user
pub record Owed : Type 0 where
  pub slot : ℕ
  pub found : ℕ

-- the sleepers must be woken
abbrev pub is_wanted : Wake → Bool
is_wanted Wanted = true
is_wanted Unwanted = false

-- what the last step of this seat owes
abbrev pub owed : Handle → Owed
owed h = record { slot = h.key.slot; found = h.found }
