-- Holds of a subtree, and how its doom changes what the tree's lock guards.
use Rattle.std.specs.Prelude.{◌≡◌, ◌≢◌, ◌⊎◌, List, [], ◌∷◌, ◌++◌, map, All, MatchBool, true}
use Rattle.kf_core.specs.declared.key.Key.{Key}
use Rattle.kf_core.specs.declared.command.Command.TheVariants.{Doom}
use Rattle.kf_core.specs.declared.refusal.Refusal.{Refusal}
use Rattle.kf_core.specs.declared.refusal.Refusal.TheVariants.{NoEntry, NoMemory, TooManyHolds, Invalid}
use Rattle.kf_core.specs.Keys.{same_key}
use Rattle.kf_core.specs.Tree.{Tree, is_linked, in_subtree}
use Rattle.kf_core.specs.PostOrder.{IsPostOrder}
use Rattle.kf_tree.specs.Causes.{doom_cause}
use Rattle.kf_tree.specs.TreeLogs.{TreeLog, IsAccepted}
use Rattle.kf_words.specs.declared.view.MasterView.{MasterView}
use mathlib.Core.List.{IsPrefix}
use Rattle.kf_words.specs.declared.sight.Seen.{Seen}
use Rattle.kf_words.specs.Notes.{history_of}
use Rattle.kf_words.specs.Callers.{Handle, having_seen}
use Rattle.kf_words.specs.Nodes.{MasterState, FoundFull, FoundRoom, IsLastKey, IsNewHold}
use Rattle.kf_words.specs.declared.note.Note.TheVariants.{Did, Claimed}
use Rattle.kf_shared.specs.Locked.{Locked, Adds, history}

-- the keys of these holds, in their order
abbrev pub keys_of : List Handle → List Key
keys_of holds = map (λ h. h.key) holds

-- a new hold of its key, whichever key this is
abbrev pub IsNew : MasterState → Handle → Type 0
IsNew m hold = IsNewHold m hold.key hold

-- the same hold; nothing changed except what it has seen
abbrev pub HasHeard : Handle → Handle → Type 0
HasHeard hold last = last ≡ having_seen last.seen hold

-- new holds and, as the last, the given one, of which nothing changed except what it has seen
abbrev pub AreHolds : MasterState → Handle → List Handle → Type 0
AreHolds m hold holds = (front : List Handle) × (last : Handle) × (holds ≡ front ++ last ∷ [])
    × HasHeard hold last × All (IsNew m) front

-- there is a last hold, and it has seen exactly this beginning of the run
abbrev pub EndsSeeing : List Handle → Seen → Type 0
EndsSeeing holds seen =
    (front : List Handle) × (last : Handle) × (holds ≡ front ++ last ∷ []) × (last.seen ≡ seen)

-- if the node is linked, its doom came after all that the hold had seen
abbrev pub CameAfter : Locked → Handle → Type 0
CameAfter old hold =
    is_linked old.state.tree hold.key ≡ true → IsPrefix (history_of hold.seen) (history old)

-- if the node was linked, the last hold has seen all that the Master has seen when the doom is done: the
-- whole history, whose last note is the doom
abbrev pub SawItsDoom : Locked → Locked → Handle → List Handle → Type 0
SawItsDoom old new hold holds = is_linked old.state.tree hold.key ≡ true → EndsSeeing holds new.master.seen

-- one hold for each node of the subtree, in post-order; if the node is no longer linked, only the given
-- hold
abbrev pub DoomHolds : Tree → Handle → List Handle → Type 0
DoomHolds t hold holds =
    MatchBool (is_linked t hold.key) (IsPostOrder t hold.key (keys_of holds)) (holds ≡ hold ∷ [])

-- the node and all below it are doomed, and that is stored; if the node is no longer linked, the tree is as
-- before
abbrev pub DoomMarked : Locked → Locked → Key → Type 0
DoomMarked old new key = MatchBool (is_linked old.state.tree key)
    (IsAccepted old.state new.state (doom_cause old.state.tree old.state.root key) (Doom key))
    (new.state ≡ old.state)

-- the node and all below it are doomed, and that is stored; if the node is no longer linked, nothing is
-- changed, and no word step is made
abbrev pub DoomDone : Locked → Locked → Key → Type 0
DoomDone old new key = MatchBool (is_linked old.state.tree key)
    (IsAccepted old.state new.state (doom_cause old.state.tree old.state.root key) (Doom key)) (new ≡ old)

-- if the node is linked, its doom was noted; otherwise no note was added
abbrev pub DoomNoted : Locked → Locked → Key → Type 0
DoomNoted old new key =
    MatchBool (is_linked old.state.tree key) (Adds old new (Did (Doom key))) (history new ≡ history old)

-- the same, and then the claim of the node was noted
abbrev pub SelfDoomNoted : Locked → Locked → Key → Type 0
SelfDoomNoted old new key = MatchBool (is_linked old.state.tree key)
    (history new ≡ (history old ++ Did (Doom key) ∷ []) ++ Claimed key ∷ [])
    (history new ≡ history old ++ Claimed key ∷ [])

-- a load found a node of the subtree with the greatest number of holds
abbrev pub FoundFullIn : Tree → Key → MasterView → Type 0
FoundFullIn t top m = (key : Key) × (in_subtree t top key ≡ true) × FoundFull m key.slot

-- a load found a node below the top with the greatest number of holds; the caller already has a hold of the
-- top
abbrev pub FoundFullBelow : Tree → Key → MasterView → Type 0
FoundFullBelow t top m = (key : Key) × (key ≢ top) × (in_subtree t top key ≡ true) × FoundFull m key.slot

-- a linked node below the top
pub record IsBelow (t : Tree) (top key : Key) : Type 0 where
  pub other : key ≢ top
  pub linked : is_linked t key ≡ true
  pub below : in_subtree t top key ≡ true

-- for each linked node below the top, a load found room for another hold
abbrev pub FoundRoomBelow : Tree → Key → MasterView → Type 0
FoundRoomBelow t top m = (key : Key) → IsBelow t top key → FoundRoom m key.slot

-- for the top, and for each linked node below it, a load found room for another hold
abbrev pub FoundRoomIn : Tree → Key → MasterView → Type 0
FoundRoomIn t top m = FoundRoom m top.slot × FoundRoomBelow t top m

-- why holds are refused: one of the nodes has no room for another hold; or each of them has room, and there
-- was no memory
abbrev pub PinsRefused : Type 0 → Type 0 → Refusal → Type 0
PinsRefused Full Room refusal = ((refusal ≡ TooManyHolds) × Full) ⊎ ((refusal ≡ NoMemory) × Room)

-- holds of the nodes below the top were refused
abbrev pub HoldsBelowRefused : Tree → Key → MasterView → Refusal → Type 0
HoldsBelowRefused t top m refusal = PinsRefused (FoundFullBelow t top m) (FoundRoomBelow t top m) refusal

-- holds of the whole subtree were refused
abbrev pub HoldsInRefused : Tree → Key → MasterView → Refusal → Type 0
HoldsInRefused t top m refusal = PinsRefused (FoundFullIn t top m) (FoundRoomIn t top m) refusal

-- why the doom of a linked node was given up: it is the root; otherwise a node below was found full, or
-- memory was refused
abbrev pub DoomGivenUp : TreeLog → Key → MasterView → Refusal → Type 0
DoomGivenUp s key m refusal = MatchBool (same_key key s.root)
    (refusal ≡ Invalid)
    (((refusal ≡ TooManyHolds) × FoundFullBelow s.tree key m) ⊎ (refusal ≡ NoMemory))

-- why a doom is refused: the node is the root; otherwise the holds of the nodes below were refused. If the
-- node is no longer linked, there was no memory
abbrev pub DoomRefused : Locked → Locked → Key → Refusal → Type 0
DoomRefused old new key refusal = MatchBool (is_linked old.state.tree key)
    (MatchBool (same_key key old.state.root)
    (refusal ≡ Invalid)
    (HoldsBelowRefused old.state.tree key new.master.view refusal))
    (refusal ≡ NoMemory)

-- why a self-removal is refused: the node is the root; otherwise the slot has had a later node, or it has not
-- and the holds of the subtree were refused
abbrev pub SelfRemovalRefused : Locked → Locked → Key → Refusal → Type 0
SelfRemovalRefused old new key refusal = MatchBool (same_key key old.state.root)
    (refusal ≡ Invalid)
    (((refusal ≡ NoEntry) × (¬ IsLastKey old.master.view key))
    ⊎ (IsLastKey old.master.view key × HoldsInRefused old.state.tree key new.master.view refusal))
