-- The rule of the table: what its words show of the views of all seats.
use Rattle.std.specs.Prelude.{◌≡◌, ℕ, ◌+◌, ◌*◌, ◌≤◌, ◌<◌, Bool, true, false, List, [], ◌∷◌, map, length, not, ◌&&◌, ◌||◌, ◌==◌, slice_get, Option, Some, None, is_some, IsTrue}
use mathlib.Core.Option.{some}
use lib.ListN.{get_elem?}
use Rattle.atomic_table.specs.Table.{State}
use Rattle.kf_core.specs.declared.key.Key.{Key}
use Rattle.kf_core.specs.declared.caller.Caller.{Caller}
use Rattle.kf_core.specs.declared.caller.Phase.TheVariants.{Turned}
use Rattle.kf_core.specs.declared.slot.NodeFlags.{NodeFlags}
use Rattle.kf_core.specs.declared.slot.SlotState.{SlotState}
use Rattle.kf_core.specs.Bare.{BareWorld, IsLast}
use Rattle.kf_core.specs.Marks.{are_live, are_doomed}
use Rattle.kf_core.specs.Phases.{has_reference, is_hiding, is_spent}
use Rattle.kf_core.specs.Safe.{Safe, NoneRunning}
use Rattle.kf_words.specs.declared.view.CallerView.{CallerView}
use Rattle.kf_words.specs.declared.view.MasterView.{MasterView}
use Rattle.kf_words.specs.declared.view.Load.{Load}
use Rattle.kf_words.specs.declared.view.View.{View}
use Rattle.kf_words.specs.declared.view.View.TheVariants as seat
use Rattle.kf_words.specs.Layout.{bit, bias, doom, hide, linked, one_generation, line_words, active_word, hold_word, is_drained, IsFree, HasRoom}

-- how many callers pass a test
abbrev pub tally : (CallerView → Bool) → List CallerView → ℕ
tally p [] = 0
tally p (c ∷ cs) = bit (p c) 1 + tally p cs

-- the caller is counted in the active word of this slot: it has a reference, or a refused try that it made is
-- not yet undone
abbrev pub is_user : ℕ → CallerView → Bool
is_user slot c = (c.key.slot == slot) && (has_reference c.phase || c.undo_due)

-- the caller hides its key, which has this slot
abbrev pub is_hider : ℕ → CallerView → Bool
is_hider slot c = (c.key.slot == slot) && is_hiding c.phase

-- the caller is counted in the hold word of this slot
abbrev pub is_holder : ℕ → CallerView → Bool
is_holder slot c = (c.key.slot == slot) && not (is_spent c.phase)

-- there is a key, and it has this slot
abbrev pub is_in : ℕ → Option Key → Bool
is_in slot None = false
is_in slot (Some key) = key.slot == slot

-- the caller counted one more hold in the hold word of this slot, and that hold has no seat yet
abbrev pub is_pinner : ℕ → CallerView → Bool
is_pinner slot c = is_in slot c.pinning

-- how many callers are counted in the active word of this slot
abbrev pub users : ℕ → List CallerView → ℕ
users slot cs = tally (is_user slot) cs

-- how many callers hide a key that has this slot
abbrev pub hiders : ℕ → List CallerView → ℕ
hiders slot cs = tally (is_hider slot) cs

-- how many holds the hold word of this slot counts for callers: those of the callers that hold the slot, and
-- those that callers counted and that have no seat yet
abbrev pub holders : ℕ → List CallerView → ℕ
holders slot cs = tally (is_holder slot) cs + tally (is_pinner slot) cs

-- 1 if the Master counted a hold in this slot that has no seat yet, else 0
abbrev pub pins_in : Option ℕ → ℕ → ℕ
pins_in None slot = 0
pins_in (Some s) slot = bit (s == slot) 1

-- the active word has this many users; BIAS, unless the node has the marks of a live node; DOOM, for a linked
-- node, if and only if the node is doomed; and HIDE, if a caller hides the key, which at most one caller does
abbrev pub ShowsMarks : ℕ → Option NodeFlags → ℕ → ℕ → Type 0
ShowsMarks word marks n h = (d : Bool) × (word ≡ n + bit (not (are_live marks)) bias + bit d doom + h * hide)
    × (IsTrue (is_some marks) → d ≡ are_doomed marks) × (h ≤ 1)

-- the hold word has the last generation, LINKED if and only if a node is linked, and this many holds, which
-- are at most as many as the limit
abbrev pub ShowsHolds : ℕ → ℕ → SlotState → ℕ → Type 0
ShowsHolds limit word state n =
    (word ≡ state.generation * one_generation + bit (is_some state.marks) linked + n) × (n ≤ limit)

-- a slot that was found free is still free, and one that was found with room still has room
abbrev pub StillHolds : ℕ → ℕ → ℕ → Type 0
StillHolds limit found word = (IsFree found → IsFree word) × (HasRoom limit found → HasRoom limit word)

-- the caller that a view names: its key and its phase
abbrev pub caller : CallerView → Caller
caller c = record { key = c.key; phase = c.phase }

-- the world that the views name
abbrev pub bare_world : MasterView → List CallerView → BareWorld
bare_world m cs = record { slots = m.slots; callers = map caller cs }

-- the last key of a slot: the key with its last generation
abbrev pub last_key : ℕ → SlotState → Key
last_key slot state = record { slot = slot; generation = state.generation }

-- what the words show of the Master's view and of those of the callers
module _ (words : List ℕ) (m : MasterView) (cs : List CallerView) where
  pub record Shows : Type 0 where
    -- there is a line for each slot
    pub wide : length words ≡ length m.slots * line_words
    -- a count of holds stays below the bits above it
    pub few : m.limit ≤ 65535
    pub marks : (slot : ℕ) (state : SlotState) → slice_get m.slots slot ≡ Some state
        → ShowsMarks (active_word words slot) state.marks (users slot cs) (hiders slot cs)
    pub holds : (slot : ℕ) (state : SlotState) → slice_get m.slots slot ≡ Some state
        → ShowsHolds m.limit (hold_word words slot) state (holders slot cs + pins_in m.pinning slot)
    -- a caller that has a try to undo was turned away
    pub tries : (j : ℕ) (c : CallerView) → get_elem? cs j ≡ some c → c.undo_due ≡ true → c.phase ≡ Turned
    -- the hold that a caller counted is of the last key of its slot
    pub pinned : (j : ℕ) (c : CallerView) (key : Key) → get_elem? cs j ≡ some c → c.pinning ≡ Some key
        → IsLast (bare_world m cs) key.slot key.generation
    -- what the Master's loads found is still true
    pub loads : (i : ℕ) (load : Load) → slice_get m.loads i ≡ Some load
        → StillHolds m.limit load.word (hold_word words load.slot)
    -- if the Master has just stored a new active word, it is still as it was stored, and the slot is free
    pub fresh : (slot : ℕ) → m.fresh ≡ Some slot → (slot < length m.slots) × (active_word words slot ≡ bias)
        × IsFree (hold_word words slot)
    -- if the Master has just found a drained word, the node is doomed, and nobody is running on it
    pub looked : (load : Load) (state : SlotState) → m.looked ≡ Some load → IsTrue (is_drained load.word)
        → slice_get m.slots load.slot ≡ Some state
        → (are_doomed state.marks ≡ true) × NoneRunning (bare_world m cs) (last_key load.slot state)
    pub safe : Safe (bare_world m cs)

-- the views of all seats: the Master has the first seat, and the callers have the others
abbrev pub seats : MasterView → List CallerView → List View
seats m cs = seat.Master m ∷ map seat.Caller cs

-- the rule of a table of this many slots, each with at most this many holds
pub record Shown (slots limit : ℕ) (t : State (Unit {0}) View) : Type 0 where
  pub master : MasterView
  pub callers : List CallerView
  pub views : t.views ≡ seats master callers
  pub all_slots : length master.slots ≡ slots
  pub most_holds : master.limit ≡ limit
  pub shows : Shows t.words master callers
