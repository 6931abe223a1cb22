-- What it means to make a hold of a key's node from any hold of the same table.
use Rattle.std.specs.Prelude.{◌≡◌, ◌≢◌, ◌⊎◌, ◌≤◌, ◌<◌, ℕ, ◌+◌, true, [], Some, if◌then◌else◌, ◌==◌}
use Rattle.atomic_table.specs.Table.{Step}
use Rattle.atomic_table.specs.declared.shared.Seat.{Seat}
use Rattle.kf_core.specs.declared.key.Key.{Key}
use Rattle.kf_core.specs.declared.key.Node.{Node}
use Rattle.kf_core.specs.declared.caller.Phase.TheVariants.{Still}
use Rattle.kf_core.specs.declared.refusal.Refusal.{Refusal}
use Rattle.kf_core.specs.declared.refusal.Refusal.TheVariants.{NoEntry, NoMemory, Access, Busy, Exists, NoDevice, NotDir, IsDir, Invalid, TooManyHolds, NoSpace, NameTooLong}
use Rattle.kf_core.specs.Bare.{is_linked}
use Rattle.kf_words.specs.declared.sight.Seen.{Seen}
use Rattle.kf_words.specs.declared.sight.Sight.{Sight}
use Rattle.kf_words.specs.declared.view.CallerView.{CallerView}
use Rattle.kf_words.specs.declared.view.View.TheVariants as seat
use Rattle.kf_words.specs.Layout.{hold_index, node_index, place_of, slot_of, holds_in, IsOf, HasSpare}
use Rattle.kf_words.specs.Steps.{Sighted, plain, new_hold, after_miss, after_count_at, after_share, CallerBecomes}
use Rattle.kf_words.specs.Callers.{Handle, CallerSight, caller_sight, seat_view}
use Rattle.kf_words.specs.TableSteps.{world, sees_holds_at, counts_hold_at, reads_node}
use Rattle.kf_words.specs.Made.{WasMade, WasARelease}
use Rattle.kf_words.specs.NodeWords.{node_in, node_born}
use Rattle.kf_words.specs.Another.{Missed, WereOutrun}

-- what a load of the hold word of any slot says
abbrev pub MakesLookAt : Step (Unit {0}) → Sighted → ℕ → Sighted → Type 0
MakesLookAt st me found me' = (st.word ≡ hold_index (slot_of st.word))
    × (CallerBecomes after_miss st (plain me) found (plain me')
    × WasMade (sees_holds_at (slot_of st.word)) (caller_sight me.0) (caller_sight me'.0))

-- what is said by an exchange on the hold word of any slot that changes nothing and names the greatest number
-- of holds of a slot
abbrev pub MakesMissAt : Step (Unit {0}) → Sighted → ℕ → Sighted → Type 0
MakesMissAt st me found me' = (st.word ≡ hold_index (slot_of st.word))
    × (CallerBecomes after_miss st (plain me) found (plain me')
    × WasMade (sees_holds_at (slot_of st.word)) (caller_sight me.0) (caller_sight me'.0))
    × (st.first ≡ me.0.seen.opening.holds)

-- the caller's view after an exchange on the hold word of a slot that expected this word: if it found that
-- word, one more hold of the slot's last key is counted
abbrev pub after_exchange_at : ℕ → ℕ → ℕ → CallerView → CallerView
after_exchange_at slot old found c =
    if found == old then after_count_at slot found c else after_miss found c

-- the exchange counted one more hold if it found the word that it expected, and otherwise it counted nothing
abbrev pub WasAnExchangeAt : ℕ → ℕ → ℕ → CallerSight → CallerSight → Type 0
WasAnExchangeAt slot old found before after = (found ≡ old → WasMade (counts_hold_at slot) before after)
    × (found ≢ old → WasMade (sees_holds_at slot) before after)

-- what an exchange on the hold word of any slot says
abbrev pub MakesExchangeAt : Step (Unit {0}) → Sighted → ℕ → Sighted → Type 0
MakesExchangeAt st me found me' = (st.word ≡ hold_index (slot_of st.word))
    × (CallerBecomes (after_exchange_at (slot_of st.word) st.first) st (plain me) found (plain me')
    × WasAnExchangeAt (slot_of st.word) st.first found (caller_sight me.0) (caller_sight me'.0))

-- what a load of one of the words of any slot's node says: which of them it loaded
abbrev pub MakesRead : Step (Unit {0}) → Sighted → ℕ → Sighted → Type 0
MakesRead st me found me' = (st.word ≡ node_index (place_of st.word) (slot_of st.word))
    × (CallerBecomes after_miss st (plain me) found (plain me')
    × WasMade (reads_node (slot_of st.word) (place_of st.word)) (caller_sight me.0) (caller_sight me'.0))

-- a seat of the same table, on this key, which has made no step
abbrev pub IsPin : Handle → Key → Seat (Unit {0}) Sight → Type 0
IsPin h key token = (token.table_id ≡ h.table) × (plain token.me ≡ (seat.Caller (new_hold key), []))

-- a hold of this key, of the same table, which has made no step. Its node is the one that was born with the
-- key
pub record IsHoldOf (hold : Handle) (key : Key) (other : Handle) : Type 0 where
  pub table : other.table ≡ hold.table
  pub key_is : other.key ≡ key
  pub node_is : other.node ≡ node_born other.seen key.slot
  pub still : other.phase ≡ Still
  pub steps : other.steps ≡ 0

-- one more hold of this key was counted, in a table of the one run in which its node was linked. It went to a
-- new seat, which has seen as much of the one run as the seat that counted it
pub record WasPinnedBy (key : Key) (before after : CallerSight) (seen : Seen) : Type 0 where
  pub counted : CallerSight
  pub count : WasMade (counts_hold_at key.slot) before counted
  pub key_is : counted.view.pinning ≡ Some key
  pub linked : is_linked (world count.found) key ≡ true
  pub view : after.view ≡ after_share counted.view
  pub same : after.seen ≡ counted.seen
  pub told : seen ≡ counted.seen

-- after at most 63 steps on the hold word of its slot that counted nothing, one step counted one more hold of
-- this key, and a new seat got it
abbrev pub WasPinnedFor : Key → CallerSight → CallerSight → Seen → Type 0
WasPinnedFor key before after seen = (missed : CallerSight)
    × Missed (sees_holds_at key.slot) 0 63 before missed × WasPinnedBy key missed after seen

-- the three words of the node in a key's slot were read, and then the hold word of the slot was loaded
pub record WasRead (key : Key) (node : Node) (before after : CallerSight) : Type 0 where
  pub one : CallerSight
  pub two : CallerSight
  pub three : CallerSight
  pub kind : WasMade (reads_node key.slot 0) before one
  pub first : WasMade (reads_node key.slot 1) one two
  pub second : WasMade (reads_node key.slot 2) two three
  pub node_is : node ≡ node_in one.view.found two.view.found three.view.found
  pub look : WasMade (sees_holds_at key.slot) three after

-- a seat of the key was made, as WasPinnedFor says; then its node was read, and the node was still linked
-- after that
pub record WasPinnedAndRead (key : Key) (node : Node) (before after : CallerSight)
    (seen : Seen) : Type 0 where
  pub pinned : CallerSight
  pub pin : WasPinnedFor key before pinned seen
  pub read : WasRead key node pinned after
  pub linked : IsOf key.generation after.view.found

-- a hold of the key was made, as WasPinnedAndRead says
abbrev pub WasHeldFor : Key → CallerSight → CallerSight → Handle → Type 0
WasHeldFor key before after other = WasPinnedAndRead key other.node before after other.seen

-- what the new seat of a key knows: it has seen this beginning of the run, and has made no step
abbrev pub new_sight : Key → Seen → CallerSight
new_sight key seen = record { view = new_hold key; seen = seen }

-- a seat of the key was made; then its node was read, and the node was no longer linked. So the new seat
-- released its hold at once
pub record WasGivenBack (key : Key) (before after : Handle) : Type 0 where
  pub node : Node
  pub pinned : CallerSight
  pub seen : Seen
  pub spent : CallerSight
  pub pin : WasPinnedFor key (seat_view before) pinned seen
  pub read : WasRead key node pinned (seat_view after)
  pub out : ¬ IsOf key.generation after.found
  pub back : WasARelease (new_sight key seen) spent

-- why no hold of a key of this generation is made if its slot has this hold word, given the greatest number
-- of holds of a slot. With NoEntry, the node is not linked there. With TooManyHolds, it is, but the slot has
-- no spare place. There is no other reason
abbrev pub IsWhyNot : ℕ → ℕ → ℕ → Refusal → Type 0
IsWhyNot generation limit word NoEntry = ¬ IsOf generation word
IsWhyNot generation limit word TooManyHolds = IsOf generation word × (limit ≤ holds_in word + 1)
IsWhyNot generation limit word NoMemory = ⊥
IsWhyNot generation limit word Access = ⊥
IsWhyNot generation limit word Busy = ⊥
IsWhyNot generation limit word Exists = ⊥
IsWhyNot generation limit word NoDevice = ⊥
IsWhyNot generation limit word NotDir = ⊥
IsWhyNot generation limit word IsDir = ⊥
IsWhyNot generation limit word Invalid = ⊥
IsWhyNot generation limit word NoSpace = ⊥
IsWhyNot generation limit word NameTooLong = ⊥

-- the last step found a hold word for which this is the reason why no hold of the key is made
abbrev pub FoundWhyNot : Key → Handle → Refusal → Type 0
FoundWhyNot key h why = IsWhyNot key.generation h.seen.opening.holds h.found why

-- why a hold of a key is refused. With NoEntry and TooManyHolds, the last step found a hold word for which
-- this is the reason. With NoMemory, it found the key linked and a spare place. With Busy, 64 steps were
-- made, and others changed the word between each of them and the next. There is no other refusal
abbrev pub HoldOfRefused : Key → Handle → Handle → Refusal → Type 0
HoldOfRefused key before after NoEntry = FoundWhyNot key after NoEntry
HoldOfRefused key before after TooManyHolds = FoundWhyNot key after TooManyHolds
HoldOfRefused key before after NoMemory =
    IsOf key.generation after.found × HasSpare after.seen.opening.holds after.found
HoldOfRefused key before after Busy =
    WereOutrun (sees_holds_at key.slot) 64 (seat_view before) (seat_view after)
HoldOfRefused key before after Access = ⊥
HoldOfRefused key before after Exists = ⊥
HoldOfRefused key before after NoDevice = ⊥
HoldOfRefused key before after NotDir = ⊥
HoldOfRefused key before after IsDir = ⊥
HoldOfRefused key before after Invalid = ⊥
HoldOfRefused key before after NoSpace = ⊥
HoldOfRefused key before after NameTooLong = ⊥

-- a hold of a key is refused after 1 to 64 steps on the hold word of its slot that counted nothing. Or it is
-- refused with NoEntry after a hold was counted and released, since the node was no longer linked
abbrev pub IsRefused : Key → Handle → Handle → Refusal → Type 0
IsRefused key before after why =
    (Missed (sees_holds_at key.slot) 1 64 (seat_view before) (seat_view after)
    × HoldOfRefused key before after why)
    ⊎ ((why ≡ NoEntry) × WasGivenBack key before after)

-- the table has the slot of this key
abbrev pub HasSlotOf : Handle → Key → Type 0
HasSlotOf h key = hold_index key.slot < h.table.words
