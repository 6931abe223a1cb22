-- How each step changes the view of the seat that makes it.
use Rattle.std.specs.Prelude.{◌≡◌, ℕ, ◌+◌, ◌/◌, Bool, true, false, [], ◌∷◌, ◌++◌, replicate, slice_set, slice_index_or, Option, None, Some, is_some, if◌then◌else◌}
use Rattle.std.specs.Option.{option_map}
use Rattle.atomic_table.specs.Table.{Me, Step}
use Rattle.kf_core.specs.declared.key.Key.{Key}
use Rattle.kf_core.specs.declared.caller.Phase.{Phase}
use Rattle.kf_core.specs.declared.caller.Phase.TheVariants.{Still, Turned, Running, Broken, Restored, Drained, Parted, Hiding, Hidden, Spent}
use Rattle.kf_core.specs.declared.slot.NodeFlags.{NodeFlags}
use Rattle.kf_core.specs.declared.slot.SlotState.{SlotState}
use Rattle.kf_core.specs.Marks.{fresh_marks, live_marks}
use Rattle.kf_words.specs.declared.view.CallerView.{CallerView}
use Rattle.kf_words.specs.declared.view.MasterView.{MasterView}
use Rattle.kf_words.specs.declared.view.View.{View}
use Rattle.kf_words.specs.declared.sight.Sight.{Sight}
use Rattle.kf_words.specs.declared.view.View.TheVariants as seat
use Rattle.kf_words.specs.Layout.{slot_of, keeps_out, is_drained, has_hide, is_unused, has_linked, one_generation}
use Rattle.kf_words.specs.Rule.{last_key}

-- a seat at the table of words: its view, and the homes that it has taken. This table has no homes
abbrev pub Seated : Type 0
Seated = Me (Unit {0}) View

-- a seat, together with what it has seen of the run of all steps
abbrev pub Sighted : Type 0
Sighted = Me (Unit {0}) Sight

-- the seat without what it has seen
abbrev pub plain : Sighted → Seated
plain me = (me.0.view, me.1)

-- the view that stands for a seat that is not a caller's: nothing is held, and no step was made
abbrev pub no_caller : CallerView
no_caller = record {
  key = record { slot = 0; generation = 0 };
  phase = Spent;
  steps = 0;
  tries = 0;
  found = 0;
  undo_due = false;
  pinning = None;
}

-- the view of a caller's seat; for the Master's seat, the view of no caller
abbrev pub caller_of : View → CallerView
caller_of (seat.Caller c) = c
caller_of (seat.Master m) = no_caller

-- the view that stands for a seat that is not the Master's: there are no slots, holds or loads
abbrev pub no_master : MasterView
no_master = record {
  limit = 0;
  slots = [];
  pinning = None;
  fresh = None;
  loads = [];
  at_birth = [];
  looked = None;
}

-- the view of the Master's seat; for a caller's seat, the view of no Master
abbrev pub master_of : View → MasterView
master_of (seat.Master m) = m
master_of (seat.Caller c) = no_master

-- the caller's view after one more word step, which found this word and left the caller in this phase
abbrev pub after_step : Phase → Bool → ℕ → CallerView → CallerView
after_step phase undo_due found c = record {
  key = c.key;
  phase = phase;
  steps = c.steps + 1;
  tries = c.tries;
  found = found;
  undo_due = undo_due;
  pinning = c.pinning;
}

-- the caller's view with one more try in its count
abbrev pub with_try : CallerView → CallerView
with_try c = record c { tries = c.tries + 1 }

-- the caller's view after a try: the caller runs if the word lets it in, and otherwise has to undo the try
abbrev pub after_try : ℕ → CallerView → CallerView
after_try found c = if keeps_out found then after_step Turned true found
    (with_try c) else after_step Running false found (with_try c)

-- the caller's view after the second step of a refused try, which keeps the word that the first step found
abbrev pub after_undo : CallerView → CallerView
after_undo c = after_step c.phase false c.found c

-- the caller's view after the end of a call
abbrev pub after_leave : ℕ → CallerView → CallerView
after_leave found c = after_step Still false found c

-- the caller's view after it gave up its reference inside its call
abbrev pub after_break : ℕ → CallerView → CallerView
after_break found c = after_step Broken false found c

-- the caller's view after it took a reference again inside its call
abbrev pub after_restore : ℕ → CallerView → CallerView
after_restore found c = after_step Restored false found c

-- the caller's view after a load of the active word: Drained if it found the word drained, and otherwise in
-- the same phase as before
abbrev pub after_look : ℕ → CallerView → CallerView
after_look found c =
    if is_drained found then after_step Drained false found c else after_step c.phase c.undo_due found c

-- the caller's view after it set the bit HIDE: Hiding if the bit was clear, and otherwise in the same phase
-- as before
abbrev pub after_hide : ℕ → CallerView → CallerView
after_hide found c =
    if has_hide found then after_step c.phase c.undo_due found c else after_step Hiding false found c

-- the hider's view after a load of the active word: Hidden if nobody uses the node, and otherwise in the same
-- phase as before
abbrev pub after_look_hidden : ℕ → CallerView → CallerView
after_look_hidden found c =
    if is_unused found then after_step Hidden false found c else after_step c.phase c.undo_due found c

-- the hider's view after it showed its key again
abbrev pub after_show : ℕ → CallerView → CallerView
after_show found c = after_step Still false found c

-- the caller's view after it released its hold of the slot
abbrev pub after_release : ℕ → CallerView → CallerView
after_release found c = after_step Spent false found c

-- the caller's view after a load of the hold word: Parted if it found no node linked, and otherwise in the
-- same phase as before
abbrev pub after_part : ℕ → CallerView → CallerView
after_part found c =
    if has_linked found then after_step c.phase c.undo_due found c else after_step Parted false found c

-- the caller's view after a step that counts nothing: a load, or an exchange that did not find the word that
-- it expected
abbrev pub after_miss : ℕ → CallerView → CallerView
after_miss found c = after_step c.phase c.undo_due found c

-- the caller's view after it counted one more hold of its key, which has no seat yet
abbrev pub after_count : ℕ → CallerView → CallerView
after_count found c = record (after_step c.phase c.undo_due found c) { pinning = Some c.key }

-- the last key of a slot, by its hold word
abbrev pub key_in : ℕ → ℕ → Key
key_in slot word = record { slot = slot; generation = word / one_generation }

-- the caller's view after it counted one more hold of the last key of a slot, which has no seat yet
abbrev pub after_count_at : ℕ → ℕ → CallerView → CallerView
after_count_at slot found c =
    record (after_step c.phase c.undo_due found c) { pinning = Some (key_in slot found) }

-- the caller's view after the hold that it counted went to a new seat
abbrev pub after_share : CallerView → CallerView
after_share c = record c { pinning = None }

-- the caller's view after a step on the count of sleepers: as before, since the rule does not read this count
abbrev pub unmoved : ℕ → CallerView → CallerView
unmoved found c = c

-- what stands for a slot that is not in the table: no node, and the generation 0
abbrev pub no_state : SlotState
no_state = record { generation = 0; marks = None }

-- what the Master knows of a slot: its last generation, and the marks of its linked node
abbrev pub state_at : MasterView → ℕ → SlotState
state_at m slot = slice_index_or m.slots slot no_state

-- the Master's view after a step that lets its loads of hold words still count: the active word that it had
-- stored or looked at no longer counts
abbrev pub on_active : MasterView → MasterView
on_active m = record m { fresh = None; looked = None }

-- the Master's view after a step, other than a load, on a hold word: nothing that it had loaded, stored or
-- looked at still counts
abbrev pub on_hold : MasterView → MasterView
on_hold m = record m { fresh = None; loads = []; looked = None }

-- the slot's state with the marks of its linked node changed, and its generation as before
abbrev pub remarked : (NodeFlags → NodeFlags) → SlotState → SlotState
remarked change state = record { generation = state.generation; marks = option_map change state.marks }

-- the Master's view after the marks of the node of this slot were changed
abbrev pub with_marks : (NodeFlags → NodeFlags) → ℕ → MasterView → MasterView
with_marks change slot m =
    record (on_active m) { slots = slice_set m.slots slot (remarked change (state_at m slot)) }

-- the marks with the node activated, doomed or not as before
abbrev pub activated_marks : NodeFlags → NodeFlags
activated_marks m = record { activated = true; doomed = m.doomed }

-- the marks with the node doomed, activated or not as before
abbrev pub doomed_marks : NodeFlags → NodeFlags
doomed_marks m = record { activated = m.activated; doomed = true }

-- the Master's view after a load of a hold word
abbrev pub with_load : ℕ → ℕ → MasterView → MasterView
with_load slot found m = record (on_active m) { loads = m.loads ++ record { slot = slot; word = found } ∷ [] }

-- the Master's view after it counted one more hold, which has no seat yet
abbrev pub with_pin : ℕ → MasterView → MasterView
with_pin slot m = record (on_hold m) { pinning = Some slot }

-- the Master's view after it undid the count of a hold that had no seat yet
abbrev pub without_pin : ℕ → MasterView → MasterView
without_pin slot m = record (on_hold m) { pinning = None }

-- the Master's view after the hold that it had counted went to a new seat
abbrev pub after_split : MasterView → MasterView
after_split m = record (on_active m) { pinning = None }

-- the view of a new hold of this key, which has made no step
abbrev pub new_hold : Key → CallerView
new_hold key = record {
  key = key;
  phase = Still;
  steps = 0;
  tries = 0;
  found = 0;
  undo_due = false;
  pinning = None;
}

-- the view of a seat that holds nothing: it came to this key, and released its hold at once
abbrev pub spent_hold : Key → CallerView
spent_hold key = record {
  key = key;
  phase = Spent;
  steps = 0;
  tries = 0;
  found = 0;
  undo_due = false;
  pinning = None;
}

-- the view of the new seat that gets the hold of this key that a caller counted
abbrev pub hold_on : Option Key → CallerView
hold_on None = no_caller
hold_on (Some key) = new_hold key

-- the view of the new seat that gets the hold that the Master counted in this slot
abbrev pub hold_for : MasterView → Option ℕ → CallerView
hold_for m None = no_caller
hold_for m (Some slot) = new_hold (last_key slot (state_at m slot))

-- the Master's view after it stored a new active word in this slot, in which a node is about to be born
abbrev pub after_store : ℕ → MasterView → MasterView
after_store slot m = record (on_active m) { fresh = Some slot }

-- the Master's view after a birth in this slot: the slot has a fresh node of the next generation, and the
-- loads that counted until then are kept separately
abbrev pub with_birth : ℕ → MasterView → MasterView
with_birth slot m = record (on_hold m) {
  slots = slice_set m.slots slot
      (record { generation = (state_at m slot).generation + 1; marks = Some fresh_marks });
  at_birth = m.loads;
}

-- the Master's view after a load of an active word
abbrev pub with_look : ℕ → ℕ → MasterView → MasterView
with_look slot found m = record (on_active m) { looked = Some (record { slot = slot; word = found }) }

-- the Master's view after it took the node out of this slot, whose last generation stays
abbrev pub without_node : ℕ → MasterView → MasterView
without_node slot m = record (on_hold m) {
  slots = slice_set m.slots slot
      (record { generation = (state_at m slot).generation; marks = None });
}

-- how a step changes the Master's view if this does not depend on the word that the step finds
abbrev pub unread : (ℕ → MasterView → MasterView) → ℕ → ℕ → MasterView → MasterView
unread after slot found m = after slot m

-- the Master's view after a step that leaves it as it was
abbrev pub kept : ℕ → ℕ → MasterView → MasterView
kept slot found m = m

-- what a step says to its caller: the new view is the old view, changed in this way
abbrev pub CallerBecomes : (ℕ → CallerView → CallerView) → Step (Unit {0}) → Seated → ℕ → Seated → Type 0
CallerBecomes after st me found me' = me' ≡ (seat.Caller (after found (caller_of me.0)), me.1)

-- what the step that shows a hidden key again says: the new view, and that it found the bit HIDE set
abbrev pub ShowsKey : Step (Unit {0}) → Seated → ℕ → Seated → Type 0
ShowsKey st me found me' = CallerBecomes after_show st me found me' × (has_hide found ≡ true)

-- what a step says to the Master: the new view is the old view, changed in this way at the slot of the word
abbrev pub MasterBecomes : (ℕ → ℕ → MasterView → MasterView) → Step (Unit {0}) → Seated → ℕ → Seated → Type 0
MasterBecomes after st me found me' =
    me' ≡ (seat.Master (after (slot_of st.word) found (master_of me.0)), me.1)

-- a step of the Master that is on the word that this index gives for some slot, and says this
abbrev pub On : (ℕ → ℕ) → (Step (Unit {0}) → Seated → ℕ → Seated → Type 0) → Step (Unit {0}) → Seated → ℕ
    → Seated → Type 0
On index tells st me found me' = (st.word ≡ index (slot_of st.word)) × tells st me found me'

-- the hold word that a load found shows the last generation of this slot, and whether a node is linked there
abbrev pub TellsSlot : MasterView → ℕ → ℕ → Type 0
TellsSlot m slot found = (found / one_generation ≡ (state_at m slot).generation)
    × (has_linked found ≡ is_some (state_at m slot).marks)

-- what the Master's load of a hold word says: the view after it, and what the word says about the slot
abbrev pub LoadsHold : Step (Unit {0}) → Seated → ℕ → Seated → Type 0
LoadsHold st me found me' =
    MasterBecomes with_load st me found me' × TellsSlot (master_of me.0) (slot_of st.word) found

-- the Master's view at the opening: only the root has a node
abbrev pub opened : ℕ → ℕ → ℕ → MasterView
opened limit slots start = record no_master {
  limit = limit;
  slots = slice_set (replicate slots (record { generation = start; marks = None })) 0
      (record { generation = start + 1; marks = Some live_marks });
}
