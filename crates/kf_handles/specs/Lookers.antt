-- What the calls on lookers do to what is behind handles.
use Rattle.std.specs.Prelude.{◌≡◌, ◌⊎◌, ◌<◌, ℕ, ℤ, negsuc, List}
use Rattle.kf_core.specs.declared.key.Key.{Key}
use Rattle.kf_core.specs.declared.refusal.Refusal.{Refusal}
use Rattle.kf_core.specs.declared.refusal.Refusal.TheVariants.{Invalid, NoEntry, NoMemory}
use Rattle.kf_live.specs.Live.{Say}
use Rattle.kf_live.specs.Lookers.{links_seen}
use Rattle.kf_looks.specs.Links.{IsLater}
use Rattle.kf_words.specs.Another.{StaysAs}
use Rattle.kf_words.specs.Callers.{Handle, IsSameSeat, TableId, seat_view}
use Rattle.kf_words.specs.Pins.{HasSlotOf, IsHoldOf, IsRefused, WasHeldFor}
use Rattle.kf_shared.specs.Finding.{LedTo, PathHolderState}
use Rattle.kf_shared.specs.Locked.{HoldRefused, IsHoldOfNode, Locked}
use Rattle.kf_handles.specs.declared.object.Object.{Object}
use Rattle.kf_handles.specs.declared.object.Object.TheVariants as behind
use Rattle.kf_handles.specs.declared.object.Seat.{Seat}
use Rattle.kf_handles.specs.declared.object.Seat.TheVariants as seat

-- ---- a new looker

-- a looker of this tree, of this table: if it has slots for look-ups, it has now seen all that the tree says
-- of its live nodes; and its own hold is of the root
pub record IsLookerOf (table : TableId) (s : Locked) (looker : PathHolderState) : Type 0 where
  pub root : looker.looker.root ≡ s.state.root
  pub told : 0 < looker.looker.slots → Say (links_seen looker.looker) s.state.tree
  pub by : IsHoldOfNode table s.state.tree s.state.root looker.holds.by

-- why there is no looker: a hold of the root was refused, or there was no memory
abbrev pub NoLooker : Locked → Locked → Refusal → Type 0
NoLooker old new why = HoldRefused old new old.state.root why ⊎ (why ≡ NoMemory)

-- a looker was made of the tree
abbrev pub MadeLooker : Object → Object → Type 0
MadeLooker (behind.Tree tree) (behind.Looker looker) =
    IsLookerOf tree.value.nodes.master.table tree.value.nodes looker.value
MadeLooker tree other = ⊥

-- the object is a tree, and this is a looker of it
abbrev pub IsLookerIn : Object → PathHolderState → Type 0
IsLookerIn (behind.Tree tree) looker = IsLookerOf tree.value.nodes.master.table tree.value.nodes looker
IsLookerIn other looker = ⊥

-- why no looker was made: as above; or Invalid, if the object is not a tree
abbrev pub LookerRefused : Object → Object → Refusal → Type 0
LookerRefused (behind.Tree old) (behind.Tree new) why = NoLooker old.value.nodes new.value.nodes why
LookerRefused old new why = why ≡ Invalid

-- ---- a look-up

-- the looker has seen as much as before or more, and its maker of holds is as it was
pub record HasLooked (old new : PathHolderState) : Type 0 where
  pub root : new.looker.root ≡ old.looker.root
  pub slots : new.looker.slots ≡ old.looker.slots
  pub later : IsLater (links_seen new.looker) (links_seen old.looker)
  pub holds : new.holds ≡ old.holds

-- in what the looker has seen now, the path leads to this key
abbrev pub FoundBy : Object → List ℕ → Key → Object → Type 0
FoundBy (behind.Looker old) path key (behind.Looker new) =
    HasLooked old.value new.value × LedTo new.value.looker path key
FoundBy old path key new = ⊥

-- nothing was found; if there is no looker, everything is as before
abbrev pub FoundNothing : Object → Object → Type 0
FoundNothing (behind.Looker old) (behind.Looker new) = HasLooked old.value new.value
FoundNothing old new = new ≡ old

-- what a look-up that finds nothing returns: -EAGAIN if there is a looker, else -EINVAL
abbrev pub look_error : Object → ℤ
look_error (behind.Looker looker) = negsuc 10
look_error other = negsuc 21

-- ---- a hold of a key

-- the looker is as before, except for the steps that its hold has made, what its hold has seen, and its spare
-- owners
pub record HasTried (old new : PathHolderState) : Type 0 where
  pub looker : new.looker ≡ old.looker
  pub seat : IsSameSeat old.holds.by new.holds.by
  pub stays : StaysAs old.holds.by new.holds.by

-- one more hold of the node of this key was counted, while the node was linked
abbrev pub PinnedBy : Object → Key → Object → Handle → Type 0
PinnedBy (behind.Looker old) key (behind.Looker new) hold = HasTried old.value new.value
    × IsHoldOf old.value.holds.by key hold
    × WasHeldFor key (seat_view old.value.holds.by) (seat_view new.value.holds.by) hold
PinnedBy old key new hold = ⊥

-- the seat has such a hold
abbrev pub HoldsPinned : Object → Key → Object → Seat → Type 0
HoldsPinned old key new (seat.Hold held) = PinnedBy old key new held.hold
HoldsPinned old key new other = ⊥

-- no hold was made; if there is no looker, everything is as before
abbrev pub PinnedNone : Object → Object → Type 0
PinnedNone (behind.Looker old) (behind.Looker new) = HasTried old.value new.value
PinnedNone old new = new ≡ old

-- why a maker of holds makes no hold of a key: because of what its steps found; or, if the table does not
-- have the key's slot, NoEntry, and the maker made no step
abbrev pub MakesNone : Handle → Key → Handle → Refusal → Type 0
MakesNone old key new why = (HasSlotOf old key → IsRefused key old new why)
    × ((HasSlotOf old key → ⊥) → (why ≡ NoEntry) × (new ≡ old))

-- why no hold was made: as above; or Invalid, if there is no looker
abbrev pub NotPinned : Object → Key → Object → Refusal → Type 0
NotPinned (behind.Looker old) key (behind.Looker new) why =
    MakesNone old.value.holds.by key new.value.holds.by why
NotPinned old key new why = why ≡ Invalid
