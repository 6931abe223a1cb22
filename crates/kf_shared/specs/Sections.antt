-- What was done in one critical section, as the history shows it to those that have seen it. The history
-- notes that the lock was taken (LockTaken), and that it is about to be released (LockReleased).
use Rattle.std.specs.Prelude.{◌≡◌, ◌≤◌, ◌⊎◌, ℕ, zero, suc, Bool, true, false, not, None, ⊤, List, [], ◌∷◌, ◌++◌, length, map, All}
use mathlib.Core.List.{IsPrefix}
use Rattle.kf_core.specs.declared.key.Key.{Key}
use Rattle.kf_core.specs.declared.command.Command.TheVariants.{Doom, Unlink, Hide, Show}
use Rattle.kf_core.specs.Tree.{Tree, is_linked}
use Rattle.kf_words.specs.declared.note.Note.{Note}
use Rattle.kf_words.specs.declared.note.Note.TheVariants.{Did, Claimed, LockTaken, LockReleased}
use Rattle.kf_words.specs.declared.sight.Seen.{Seen}
use Rattle.kf_words.specs.declared.sight.StepKind.{StepKind}
use Rattle.kf_words.specs.declared.sight.StepKind.TheVariants.{Looks as looks, Parts as parts}
use Rattle.kf_words.specs.Notes.{history_of}
use Rattle.kf_words.specs.Callers.{Handle, CallerSight, IsSameSeat, having_seen, seat_view}
use Rattle.kf_tree.specs.Causes.{hidden_in}
use Rattle.kf_words.specs.Made.{Rested, WasMade, WasAHide, WasARestore, WaitedForDrain, WaitedForHidden}
use Rattle.kf_shared.specs.Hiding.{hold_cause}
use Rattle.kf_shared.specs.Locked.{Locked, history, is_claimed}
use Rattle.kf_shared.specs.Noted.{tree_in, claims_in}
use Rattle.kf_shared.specs.Removal.{HasHeard, keys_of}
use Rattle.kf_shared.specs.Receipts.{IsDoomList, owners_of}

-- the last note says that the lock was taken
abbrev pub IsTaken : List Note → Type 0
IsTaken notes = (before : List Note) × (notes ≡ before ++ LockTaken ∷ [])

-- at least as much of the one run was seen after as before
abbrev pub SawMore : Seen → Seen → Type 0
SawMore before after = IsPrefix before.steps after.steps

-- the seat made no step, and has seen at least as much of the one run as before
pub record WasTold (before after : CallerSight) : Type 0 where
  pub view : after.view ≡ before.view
  pub seen : SawMore before.seen after.seen

-- the seat made this many steps of this kind and no other step; before, between and after them it may have
-- seen more of the run
abbrev pub WereMadeTold : (ℕ → StepKind) → ℕ → CallerSight → CallerSight → Type 0
WereMadeTold kind zero before after = WasTold before after
WereMadeTold kind (suc count) before after = (told : CallerSight) × (made : CallerSight)
    × WereMadeTold kind count before told × WasMade kind told made × WasTold made after

-- this many times, the seat saw at least as much of the run as before, and then rested, or looked whether the
-- node had left the tree
abbrev pub RestedOrLooked : ℕ → CallerSight → CallerSight → Type 0
RestedOrLooked zero before after = after ≡ before
RestedOrLooked (suc count) before after = (between : CallerSight) × (told : CallerSight)
    × RestedOrLooked count before between × WasTold between told
    × (((counted : Bool) × Rested counted told after) ⊎ WasMade parts told after)

-- all the steps of a caller that saw its node drained, until the node is finished: it rests or looks any
-- number of times. Then it may see more of the run, up to the release of the lock, and looks for the last
-- time whether the node has left the tree
abbrev pub OnlyRested : CallerSight → CallerSight → Type 0
OnlyRested before after = (between : CallerSight) × (told : CallerSight)
    × ((count : ℕ) × RestedOrLooked count before between) × WasTold between told × WasMade parts told after

-- all the steps of a hold while its node is finished: it waits for the drain, and then rests and looks as
-- above
abbrev pub OnlyWaited : CallerSight → CallerSight → Type 0
OnlyWaited before after = (saw : CallerSight) × WaitedForDrain before saw × OnlyRested saw after

-- one step hid the key; then the token may have seen more of the run, up to the release of the lock; and then
-- it waited until nobody used the node
abbrev pub HidToldAndLooked : CallerSight → CallerSight → Type 0
HidToldAndLooked before after = (hid : CallerSight) × (told : CallerSight) × WasAHide before hid
    × WasTold hid told × WaitedForHidden told after

-- this note if the test is true, otherwise no note
abbrev pub note_where : Bool → Note → List Note
note_where true note = note ∷ []
note_where false note = []

-- the notes that the doom of a key adds to the history of this tree: none if its node is not linked
abbrev pub doom_note : Tree → Key → List Note
doom_note t key = note_where (is_linked t key) (Did (Doom key))

-- the notes of the unlinks of these keys, in their order
abbrev pub unlinks_of : List Key → List Note
unlinks_of keys = map (λ key. Did (Unlink key)) keys

-- the notes that the unlink of a key adds: none if its node is not linked
abbrev pub unlink_note : Tree → Key → List Note
unlink_note t key = note_where (is_linked t key) (Did (Unlink key))

-- the notes that the showing of a file adds: none if the file is not linked or not hidden
abbrev pub show_note : Tree → Key → List Note
show_note t key = note_where (hidden_in t key) (Did (Show key))

-- the notes that the removal of a call's own node adds: the doom, if the node is linked, and the claim
abbrev pub self_notes : Tree → Key → List Note
self_notes t key = doom_note t key ++ Claimed key ∷ []

-- a handle at the end of a critical section: nothing of it changed except what it has seen. What it had seen
-- before is a beginning of the history. Then exactly these notes were added before the lock was released, and
-- the handle has seen all of this history
pub record WasClosed (old : Locked) (added : List Note) (before after : Handle) : Type 0 where
  pub heard : HasHeard before after
  pub later : SawMore before.seen after.seen
  pub came : IsPrefix (history_of before.seen) (history old)
  pub seen : history_of after.seen ≡ (history old ++ added) ++ LockReleased ∷ []

-- the last of these, if there is one, had seen a beginning of this history. Now it has seen this beginning of
-- the run, and nothing else changed
abbrev pub HasMet : List Note → Seen → List Handle → List Handle → Type 0
HasMet found seen before after =
    ((length before ≡ 0) × (after ≡ before))
    ⊎ ((front : List Handle) × (last : Handle) × (before ≡ front ++ last ∷ [])
    × (after ≡ front ++ having_seen seen last ∷ []) × IsPrefix (history_of last.seen) found)

-- this was the history, and what was seen before is a beginning of it. These notes came next, and no other
-- note before the lock was released; and all of that was seen after
pub record WasAdded (before after : Seen) (found added : List Note) : Type 0 where
  pub came : IsPrefix (history_of before) found
  pub next : IsPrefix ((found ++ added) ++ LockReleased ∷ []) (history_of after)

-- this was the history when the lock was taken, these notes are all that came before the lock was released,
-- and that was seen
pub record WasDone (before after : Seen) (found added : List Note) : Type 0 where
  pub taken : IsTaken found
  pub section : WasAdded before after found added

-- there is a last one of these holds or receipts, and this is true of it
abbrev pub Last : (Handle → Type 0) → List Handle → Type 0
Last Such handles = (front : List Handle) × (last : Handle) × (handles ≡ front ++ last ∷ []) × Such last

-- a removal at the end of its critical section: it still has the same nodes. What the last of its holds had
-- seen before is a beginning of the history. Then the first of the nodes were unlinked in their order, and no
-- other note was added before the lock was released. The last hold or receipt has seen that
pub record WasEnded (old : Locked) (before after : List Handle) : Type 0 where
  pub owners : owners_of after ≡ owners_of before
  pub gone : List Key
  pub first : IsPrefix gone (keys_of before)
  pub came : (front : List Handle) (last : Handle) → before ≡ front ++ last ∷ []
      → IsPrefix (history_of last.seen) (history old)
  pub seen : (front : List Handle) (last : Handle) → before ≡ front ++ last ∷ []
      → Last (λ end. history_of end.seen ≡ (history old ++ unlinks_of gone) ++ LockReleased ∷ []) after

-- this was the history, after all that the hold had seen, and this is its tree. Next came the doom of the
-- hold's node, if the node is linked, and the unlinks of the first of these keys in their order. No other
-- note came before the lock was released, and the receipt has seen that
abbrev pub WasRemovedIn : List Note → Tree → Handle → List Key → Handle → Type 0
WasRemovedIn found t hold keys receipt = (gone : List Key) × IsPrefix gone keys
    × WasAdded hold.seen receipt.seen found (doom_note t hold.key ++ unlinks_of gone)

-- the same for the removal of the linked node of a key, if the removal took the hold itself
abbrev pub SawItsRemoval : List Note → Key → List Key → Handle → Type 0
SawItsRemoval found key keys receipt = (gone : List Key) × IsPrefix gone keys
    × IsPrefix ((found ++ Did (Doom key) ∷ unlinks_of gone) ++ LockReleased ∷ []) (history_of receipt.seen)

-- in the tree at the moment when the lock was taken, these are the keys of the node's subtree, or only its
-- own key if it is not linked. The node's doom, if it is linked, and the unlinks of the first of these keys,
-- are all that came before the lock was released, and this receipt has seen that
abbrev pub WasRemoved : Handle → List Key → Handle → Type 0
WasRemoved hold keys receipt = (found : List Note) × IsTaken found
    × WasRemovedIn found (tree_in found) hold keys receipt
    × IsDoomList (tree_in found) hold.key keys

-- the node's unlink, if the node was linked when the lock was taken, is all that came before the lock was
-- released, and the receipt has seen that
abbrev pub WasFinished : Handle → Handle → Type 0
WasFinished hold receipt = (found : List Note)
    × WasDone hold.seen receipt.seen found (unlink_note (tree_in found) hold.key)

-- the two lists have the same length, and this relates each item of the first list to the item at the same
-- place in the second
abbrev pub Each : (Handle → Handle → Type 0) → List Handle → List Handle → Type 0
Each Such [] [] = ⊤
Each Such [] (after ∷ afters) = ⊥
Each Such (before ∷ befores) [] = ⊥
Each Such (before ∷ befores) (after ∷ afters) = Such before after × Each Such befores afters

-- a seat did this the given number of times; before, between and after that it may have seen more of the run
abbrev pub DidTold : (CallerSight → CallerSight → Type 0) → ℕ → CallerSight → CallerSight → Type 0
DidTold Step zero before after = WasTold before after
DidTold Step (suc count) before after = (told : CallerSight) × (done : CallerSight)
    × DidTold Step count before told × Step told done × WasTold done after

-- a look: whether the node is in use, or whether it has left the tree
abbrev pub Looked : CallerSight → CallerSight → Type 0
Looked before after = WasMade looks before after ⊎ WasMade parts before after

-- all the steps of a seat between these two sights are looks, so it waited for nobody
abbrev pub OnlyLooked : CallerSight → CallerSight → Type 0
OnlyLooked before after = (count : ℕ) × DidTold Looked count before after

-- all the steps of a seat between these two sights are looks and rests
abbrev pub LookedAndWaited : CallerSight → CallerSight → Type 0
LookedAndWaited before after =
    (count : ℕ) × DidTold (λ x y. Looked x y ⊎ ((counted : Bool) × Rested counted x y)) count before after

-- between these two sights a seat waited only after it had seen this history
abbrev pub WaitedAfter : List Note → CallerSight → CallerSight → Type 0
WaitedAfter past before after = (told : CallerSight) × OnlyLooked before told
    × IsPrefix past (history_of told.seen) × LookedAndWaited told after

-- one turn of the lock, in which a removal unlinks the first of the nodes that are left. It consists of the
-- history when the lock was taken, the keys whose unlinks came next, the holds of the nodes, and the receipts
-- of these holds
pub record Turn : Type 0 where
  pub found : List Note
  pub gone : List Key
  pub holds : List Handle
  pub receipts : List Handle

-- this history, and then the unlink of this key, if it is linked
abbrev pub unlinked : List Note → Key → List Note
unlinked notes key = notes ++ unlink_note (tree_in notes) key

-- the same for these keys, one after the other
abbrev pub unlinked_each : List Note → List Key → List Note
unlinked_each notes [] = notes
unlinked_each notes (key ∷ keys) = unlinked_each (unlinked notes key) keys

-- the history up to the release of the lock that ends the turn
abbrev pub turn_end : Turn → List Note
turn_end turn = unlinked_each turn.found turn.gone ++ LockReleased ∷ []

-- what each of these holds had seen came before the unlink of its node, if the nodes are unlinked one after
-- the other from this history on
abbrev pub AllCame : List Note → List Handle → Type 0
AllCame notes [] = ⊤
AllCame notes (hold ∷ holds) = IsPrefix (history_of hold.seen) notes × AllCame (unlinked notes hold.key) holds

-- there is a first one of these holds, and it waited only after it had seen this history; the others waited
-- for nobody
abbrev pub FirstWaited : List Note → List Handle → List Handle → Type 0
FirstWaited past [] receipts = ⊥
FirstWaited past (hold ∷ holds) [] = ⊥
FirstWaited past (hold ∷ holds) (receipt ∷ receipts) = WaitedAfter past (seat_view hold) (seat_view receipt)
    × Each (λ x y. OnlyLooked (seat_view x) (seat_view y)) holds receipts

-- a turn, after this history, of a removal that has these keys left. The unlinks of the first of these keys,
-- in their order and at most 64, are all that came before the lock was released. The turn's holds are of the
-- first of the unlinked keys; the others have no receipts yet. What each hold had seen came before its node's
-- unlink, and each receipt has seen the release. Only the first node was waited for, and only after the
-- previous turn was over
pub record IsTurn (past : List Note) (keys : List Key) (turn : Turn) : Type 0 where
  pub after : IsPrefix past turn.found
  pub taken : IsTaken turn.found
  pub first : IsPrefix (keys_of turn.holds) turn.gone
  pub among : IsPrefix turn.gone keys
  pub most : length turn.gone ≤ 64
  pub came : AllCame turn.found turn.holds
  pub seen : All (λ receipt. IsPrefix (turn_end turn) (history_of receipt.seen)) turn.receipts
  pub waited : FirstWaited past turn.holds turn.receipts

-- the same seat of the same node, which only looked
abbrev pub Stays : Handle → Handle → Type 0
Stays before after = IsSameSeat before after × OnlyLooked (seat_view before) (seat_view after)

-- the first of the nodes of these holds, at most 64, were unlinked in their order, which led from the first
-- history to the second. New receipts were added to those that were there before. The other holds are left,
-- and the next of their nodes may have been unlinked too and have no receipts yet
pub record WereUnlinked (found after : List Note) (holds before receipts left : List Handle) : Type 0 where
  pub done : List Handle
  pub rest : List Handle
  pub made : List Handle
  pub gone : List Key
  pub split : holds ≡ done ++ rest
  pub added : receipts ≡ before ++ made
  pub unlinks : after ≡ unlinked_each found gone
  pub first : IsPrefix (keys_of done) gone
  pub among : IsPrefix gone (keys_of holds)
  pub most : length gone ≤ 64
  pub came : AllCame found done
  pub receipts_are : Each Stays done made
  pub left_are : Each Stays rest left

-- the first of these, if there is one, has seen this history
abbrev pub FirstSaw : List Note → List Handle → Type 0
FirstSaw notes [] = ⊤
FirstSaw notes (hold ∷ holds) = IsPrefix notes (history_of hold.seen)

-- the first of the nodes were unlinked as in `WereUnlinked`, and then the lock was released; the new receipts
-- have seen that, and so has the first of the holds that are left
pub record WasTurn (found : List Note) (holds before receipts left : List Handle) : Type 0 where
  pub after : List Note
  pub turn : WereUnlinked found after holds before receipts left
  pub seen : All (λ receipt. IsPrefix (after ++ LockReleased ∷ []) (history_of receipt.seen)) turn.made
  pub next : FirstSaw (after ++ LockReleased ∷ []) left

-- the handle has now seen exactly this history, and nothing else of it changed
abbrev pub Learned : List Note → Handle → Handle → Type 0
Learned notes before after =
    HasHeard before after × SawMore before.seen after.seen × (history_of after.seen ≡ notes)

-- only the first of these, if there is one, has now seen this history; the others are as before
abbrev pub FirstLearned : List Note → List Handle → List Handle → Type 0
FirstLearned notes [] after = after ≡ []
FirstLearned notes (hold ∷ holds) after = (told : Handle) × Learned notes hold told × (after ≡ told ∷ holds)

-- the first of these, if there is one, looked and waited; the others are as before
abbrev pub FirstDrained : List Handle → List Handle → Type 0
FirstDrained [] after = after ≡ []
FirstDrained (hold ∷ holds) after = (drained : Handle) × IsSameSeat hold drained
    × LookedAndWaited (seat_view hold) (seat_view drained) × (after ≡ drained ∷ holds)

-- after this history these turns, one after the other, made these receipts for the first of the holds. The
-- other holds are left
abbrev pub AreTurns : List Note → List Handle → List Handle → List Handle → List Turn → Type 0
AreTurns past holds left receipts [] = (holds ≡ left) × (receipts ≡ [])
AreTurns past holds left receipts (turn ∷ turns) = (rest : List Handle) × (more : List Handle)
    × (holds ≡ turn.holds ++ rest) × (receipts ≡ turn.receipts ++ more) × IsTurn past (keys_of holds) turn
    × AreTurns (turn_end turn) rest left more turns

-- one receipt for each hold, in their order, made by turns of the lock
abbrev pub AllFinished : List Handle → List Handle → Type 0
AllFinished holds receipts = (turns : List Turn) × AreTurns [] holds [] receipts turns

-- one receipt for each node of a removal, in their order: the first were there before, and the others were
-- made by turns of the lock
abbrev pub AllEnded : List Handle → List Handle → Type 0
AllEnded holds receipts = (kept : List Handle) × (left : List Handle) × (made : List Handle)
    × (holds ≡ kept ++ left) × (receipts ≡ kept ++ made) × AllFinished left made

-- one receipt for each hold, in their order, was added to these receipts
abbrev pub AreFinished : List Handle → List Handle → List Handle → Type 0
AreFinished before holds receipts =
    (made : List Handle) × (receipts ≡ before ++ made) × AllFinished holds made

-- if the file was linked and hidden when the lock was taken, the note that it is shown is all that came
-- before the lock was released; otherwise nothing came. The hold has seen that
abbrev pub WasShownAlone : Handle → Handle → Type 0
WasShownAlone hidden hold = (found : List Note)
    × WasDone hidden.seen hold.seen found (show_note (tree_in found) hidden.key)

-- this was the history. These notes came next, and no other note before the lock was released. What was seen
-- before is a beginning of the history with these notes, and the release was seen after
pub record WasAddedLate (before after : Seen) (found added : List Note) : Type 0 where
  pub came : IsPrefix (history_of before) (found ++ added)
  pub next : IsPrefix ((found ++ added) ++ LockReleased ∷ []) (history_of after)

-- the same, and this was the history when the lock was taken
pub record WasDoneLate (before after : Seen) (found added : List Note) : Type 0 where
  pub taken : IsTaken found
  pub section : WasAddedLate before after found added

-- in the tree at the moment when the lock was taken, there was no cause against the hiding. The hiding is all
-- that came before the lock was released, and the token has seen that
abbrev pub WasHiddenAlone : Handle → Handle → Type 0
WasHiddenAlone hold token = (found : List Note)
    × WasDoneLate hold.seen token.seen found (Did (Hide hold.key) ∷ [])
    × (hold_cause (tree_in found) hold ≡ None)

-- in the tree at the moment when the lock was taken, these are the keys of the subtree, or only the node's
-- own key if it is not linked. The claim is the first if and only if the claims at that moment did not have
-- the node. The node's doom, if it was linked, and its claim are all that came before the lock was released,
-- and the call has seen that
pub record WasSelfRemoved (before after : Handle) (first : Bool) (keys : List Key) : Type 0 where
  pub found : List Note
  pub done : WasDoneLate before.seen after.seen found (self_notes (tree_in found) before.key)
  pub first_is : first ≡ not (is_claimed (claims_in found) before.key)
  pub listed : IsDoomList (tree_in found) before.key keys

-- the call had seen exactly this history, and was restored. After that it has seen no further note, so nobody
-- had taken the lock in between
abbrev pub WasRestoredAt : List Note → CallerSight → Type 0
WasRestoredAt found after = (told : CallerSight) × (restored : CallerSight) × (history_of told.seen ≡ found)
    × WasARestore told restored × WasTold restored after × (history_of after.seen ≡ found)

-- the same, and the lock had just been taken
abbrev pub WasRestoredAlone : CallerSight → Type 0
WasRestoredAlone after = (found : List Note) × IsTaken found × WasRestoredAt found after
