-- What contracts see of the Master, and what each of its calls says about it.
use Rattle.std.specs.Prelude.{◌≡◌, ◌≤◌, ◌<◌, ◌↔◌, ◌⊎◌, ℕ, zero, suc, ◌+◌, Bool, true, false, not, ◌&&◌, ◌==◌, List, [], ◌∷◌, ◌++◌, length, Option, None, Some, is_some, slice_get, slice_set, IsTrue}
use Rattle.std.specs.Option.{option_map}
use Rattle.kf_core.specs.declared.key.Key.{Key}
use Rattle.kf_core.specs.declared.key.Node.{Node}
use Rattle.kf_core.specs.declared.caller.Phase.TheVariants.{Still}
use Rattle.kf_core.specs.declared.refusal.Refusal.{Refusal}
use Rattle.kf_core.specs.declared.refusal.Refusal.TheVariants.{NoEntry, NoMemory, Access, Busy, Exists, NoDevice, NotDir, IsDir, Invalid, TooManyHolds, NoSpace, NameTooLong}
use Rattle.kf_core.specs.declared.slot.NodeFlags.{NodeFlags}
use Rattle.kf_core.specs.declared.slot.SlotState.{SlotState}
use Rattle.kf_core.specs.Bare.{marks_in}
use Rattle.kf_words.specs.declared.master_seat.MasterSeat.{MasterSeat}
use Rattle.kf_words.specs.declared.view.Load.{Load}
use Rattle.kf_words.specs.declared.view.MasterView.{MasterView}
use Rattle.kf_words.specs.declared.sight.Seen.{Seen}
use Rattle.kf_words.specs.declared.sight.Sight.{Sight}
use Rattle.kf_words.specs.Layout.{is_drained, holds_in, IsFree, HasRoom}
use Rattle.kf_words.specs.Steps.{master_of, with_load, with_pin, without_pin, after_split, with_look, without_node}
use Rattle.kf_words.specs.Callers.{TableId, Handle}
use Rattle.kf_words.specs.Notes.{history_of}

-- the Master's table, its view, and for each slot the node that was born there last
pub record MasterState : Type 0 where
  pub table : TableId
  pub view : MasterView
  pub nodes : List Node
  pub seen : Seen  -- the beginning of the one run of all steps at the table that it has seen

-- what the Master's seat knows: its view, and the beginning of the one run that it has seen
pub record MasterSight : Type 0 where
  pub view : MasterView
  pub seen : Seen

-- what a seat knows, if it is the Master's
abbrev pub master_sight : Sight → MasterSight
master_sight s = record { view = master_of s.view; seen = s.seen }

-- all that the Master knows
abbrev pub sight_in : MasterState → MasterSight
sight_in m = record { view = m.view; seen = m.seen }

-- the Master's view, which is in the token of its seat
abbrev pub master_view : MasterSeat → MasterView
master_view s = master_of s.token.me.0.view

-- the marks of a node, if it is linked
abbrev pub marks_of : MasterView → Key → Option NodeFlags
marks_of m key = marks_in (slice_get m.slots key.slot) key.generation

-- the last generation of a slot, or None if the table has no such slot
abbrev pub last_of : MasterView → ℕ → Option ℕ
last_of m slot = option_map (λ (state : SlotState). state.generation) (slice_get m.slots slot)

-- these slots, with the key's generation and these marks in the key's slot
abbrev pub slots_with : List SlotState → Key → Option NodeFlags → List SlotState
slots_with slots key marks = slice_set slots key.slot (record { generation = key.generation; marks = marks })

-- the table and the limit of holds are the same, nothing about nodes has changed, and no note was added
pub record KeepsNodes (old new : MasterState) : Type 0 where
  pub table : new.table ≡ old.table
  pub limit : new.view.limit ≡ old.view.limit
  pub nodes : new.nodes ≡ old.nodes
  pub slots : new.view.slots ≡ old.view.slots
  pub history : history_of new.seen ≡ history_of old.seen

-- since the Master's last step, other than a load, on a hold word, a load of this slot's hold word found such
-- a word
abbrev pub Found : (ℕ → Type 0) → MasterView → ℕ → Type 0
Found Such m slot =
    (i : ℕ) × (load : Load) × (slice_get m.loads i ≡ Some load) × (load.slot ≡ slot) × Such load.word

-- a load that still counts found the slot free: it had no linked node, nobody held it, and it had a
-- generation left
abbrev pub FoundFree : MasterView → ℕ → Type 0
FoundFree m slot = Found IsFree m slot

-- a load that still counts found room for one more hold in the slot
abbrev pub FoundRoom : MasterView → ℕ → Type 0
FoundRoom m slot = Found (HasRoom m.limit) m slot

-- for each slot, if a load that counts in the first view found room for one more hold, so did one that counts
-- in the second view
abbrev pub KeepsRooms : MasterView → MasterView → Type 0
KeepsRooms m m' = (slot : ℕ) → FoundRoom m slot → FoundRoom m' slot

-- a load that still counts found the slot with the greatest number of holds
abbrev pub FoundFull : MasterView → ℕ → Type 0
FoundFull m slot = Found (λ word. m.limit ≤ holds_in word) m slot

-- no node is linked in the slot of this key, and the key has the slot's next generation
pub record IsVacant (m : MasterView) (key : Key) : Type 0 where
  pub last : ℕ
  pub vacant : slice_get m.slots key.slot ≡ Some (record { generation = last; marks = None })
  pub next : key.generation ≡ last + 1

-- no node is linked in the slot, and the slot has a generation left
abbrev pub HasNext : MasterView → ℕ → Type 0
HasNext m slot = (last : ℕ) × (slice_get m.slots slot ≡ Some (record { generation = last; marks = None }))
    × (last < 4294967295)

-- a node may be born with this key: its slot is vacant, and was found free
pub record MayBear (m : MasterView) (key : Key) : Type 0 where
  pub vacant : IsVacant m key
  pub free : FoundFree m key.slot

-- there is such a slot, and no node is linked in it
abbrev pub lacks_node : Option SlotState → Bool
lacks_node None = false
lacks_node (Some state) = not (is_some state.marks)

-- the table has this slot, which is not the root's, and no node is linked there
abbrev pub is_unlinked : List SlotState → ℕ → Bool
is_unlinked slots slot = not (slot == 0) && lacks_node (slice_get slots slot)

-- the slots below this one were passed, in order, with these loads. A slot that has a linked node, or is the
-- root's or not in the table, was passed without a load. For each other slot, a load found it not free
abbrev pub Passed : List SlotState → ℕ → List Load → Type 0
Passed slots zero loads = loads ≡ []
Passed slots (suc slot) loads = ((is_unlinked slots slot ≡ false) × Passed slots slot loads)
    ⊎ ((is_unlinked slots slot ≡ true) × (before : List Load) × (word : ℕ) × (¬ IsFree word)
    × (loads ≡ before ++ record { slot = slot; word = word } ∷ []) × Passed slots slot before)

-- the Master's view after these loads of hold words, one after another
abbrev pub with_loads : List Load → MasterView → MasterView
with_loads [] m = m
with_loads (load ∷ loads) m = with_loads loads (with_load load.slot load.word m)

-- the slots below this one were passed, and this one is the first that was found free
pub record FoundFirst (m : MasterView) (slot : ℕ) (m' : MasterView) : Type 0 where
  pub before : List Load
  pub word : ℕ
  pub passed : Passed m.slots slot before
  pub unlinked : is_unlinked m.slots slot ≡ true
  pub free : IsFree word
  pub view : m' ≡ with_load slot word (with_loads before m)

-- all slots were passed, and none was found free
pub record FoundNone (m : MasterView) (m' : MasterView) : Type 0 where
  pub loads : List Load
  pub below : ℕ
  pub passed : Passed m.slots below loads
  pub all : length m.slots ≤ below
  pub view : m' ≡ with_loads loads m

-- what a search for a free slot returns
abbrev pub Searched : MasterView → Option ℕ → MasterView → Type 0
Searched m None m' = FoundNone m m'
Searched m (Some slot) m' = FoundFirst m slot m'

-- one load found whether the slot has room
abbrev pub RoomFound : MasterView → ℕ → Bool → MasterView → Type 0
RoomFound m slot answer m' =
    (found : ℕ) × (m' ≡ with_load slot found m) × (IsTrue answer ↔ HasRoom m.limit found)

-- one load found room, and the hold that was then counted went to a new seat
abbrev pub WasPinned : MasterView → ℕ → MasterView → Type 0
WasPinned m slot m' =
    (found : ℕ) × HasRoom m.limit found × (m' ≡ after_split (with_pin slot (with_load slot found m)))

-- one load found the greatest number of holds
abbrev pub WasFull : MasterView → ℕ → MasterView → Type 0
WasFull m slot m' = (found : ℕ) × (m.limit ≤ holds_in found) × (m' ≡ with_load slot found m)

-- one load found room, and the hold that was then counted was taken off the count again
abbrev pub WasUnpinned : MasterView → ℕ → MasterView → Type 0
WasUnpinned m slot m' =
    (found : ℕ) × HasRoom m.limit found × (m' ≡ without_pin slot (with_pin slot (with_load slot found m)))

-- why a pin is refused. With TooManyHolds, its load found the slot with the greatest number of holds. With
-- NoMemory, the hold that it counted was taken off the count again. There is no other refusal
abbrev pub PinRefused : MasterView → ℕ → Refusal → MasterView → Type 0
PinRefused m slot TooManyHolds m' = WasFull m slot m'
PinRefused m slot NoMemory m' = WasUnpinned m slot m'
PinRefused m slot NoEntry m' = ⊥
PinRefused m slot Access m' = ⊥
PinRefused m slot Busy m' = ⊥
PinRefused m slot Exists m' = ⊥
PinRefused m slot NoDevice m' = ⊥
PinRefused m slot NotDir m' = ⊥
PinRefused m slot IsDir m' = ⊥
PinRefused m slot Invalid m' = ⊥
PinRefused m slot NoSpace m' = ⊥
PinRefused m slot NameTooLong m' = ⊥

-- the key has the last generation of its slot
abbrev pub IsLastKey : MasterView → Key → Type 0
IsLastKey m key = last_of m key.slot ≡ Some key.generation

-- why a pin of a held key is refused. With NoEntry, the key is not the last of its slot, and no step was
-- made. With TooManyHolds or NoMemory, the key is the last of its slot, and is refused as a pin is. There is
-- no other refusal
abbrev pub HeldPinRefused : MasterView → Key → Refusal → MasterView → Type 0
HeldPinRefused m key NoEntry m' = (¬ IsLastKey m key) × (m' ≡ m)
HeldPinRefused m key TooManyHolds m' = IsLastKey m key × WasFull m key.slot m'
HeldPinRefused m key NoMemory m' = IsLastKey m key × WasUnpinned m key.slot m'
HeldPinRefused m key Access m' = ⊥
HeldPinRefused m key Busy m' = ⊥
HeldPinRefused m key Exists m' = ⊥
HeldPinRefused m key NoDevice m' = ⊥
HeldPinRefused m key NotDir m' = ⊥
HeldPinRefused m key IsDir m' = ⊥
HeldPinRefused m key Invalid m' = ⊥
HeldPinRefused m key NoSpace m' = ⊥
HeldPinRefused m key NameTooLong m' = ⊥

-- a new hold of this key, which has made no step
pub record IsNewHold (m : MasterState) (key : Key) (hold : Handle) : Type 0 where
  pub table : hold.table ≡ m.table
  pub key_is : hold.key ≡ key
  pub node : slice_get m.nodes key.slot ≡ Some hold.node
  pub still : hold.phase ≡ Still
  pub steps : hold.steps ≡ 0

-- one load of the active word was made, and the result is true if and only if it found the word drained. If
-- so, a second step took the node out
abbrev pub UnlinkAnswer : MasterView → ℕ → Bool → MasterView → Type 0
UnlinkAnswer m slot true m' =
    (found : ℕ) × (is_drained found ≡ true) × (m' ≡ without_node slot (with_look slot found m))
UnlinkAnswer m slot false m' = (found : ℕ) × (is_drained found ≡ false) × (m' ≡ with_look slot found m)

-- the slot has a node with these marks
abbrev pub HasMarks : MasterView → ℕ → NodeFlags → Type 0
HasMarks m slot x = (state : SlotState) × (slice_get m.slots slot ≡ Some state) × (state.marks ≡ Some x)

-- the Master's last look found the slot's active word drained, and still counts
abbrev pub HasLooked : MasterView → ℕ → Type 0
HasLooked m slot =
    (found : ℕ) × (m.looked ≡ Some (record { slot = slot; word = found })) × (is_drained found ≡ true)
