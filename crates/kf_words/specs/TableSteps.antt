-- One atomic step of the table as a whole, by any of its seats.
use Rattle.std.specs.Prelude.{◌≡◌, ◌≢◌, ◌⊎◌, ℕ, suc, ◌+◌, ◌-◌, ◌%◌, ◌^◌, ◌<◌, bit_or, true, false, List, [], ◌∷◌, ◌++◌, map, length, slice_index, slice_set, Some, None, is_some}
use mathlib.Core.Option.{some}
use lib.ListN.{get_elem?}
use Rattle.atomic_table.specs.Table.{State, stepped, keeps}
use Rattle.atomic_table.specs.Table.{opening as table_opening}
use Rattle.kf_core.specs.declared.key.Key.{Key}
use Rattle.kf_core.specs.declared.caller.Phase.TheVariants.{Turned, Running, Broken, Drained, Hiding, Hidden, Spent}
use Rattle.kf_core.specs.declared.slot.NodeFlags.{NodeFlags}
use Rattle.kf_core.specs.Marks.{fresh_marks}
use Rattle.kf_core.specs.Phases.{may_release}
use Rattle.kf_core.specs.Bare.{BareWorld}
use Rattle.kf_words.specs.declared.view.CallerView.{CallerView}
use Rattle.kf_words.specs.declared.view.MasterView.{MasterView}
use Rattle.kf_words.specs.declared.view.View.{View}
use Rattle.kf_words.specs.declared.view.View.TheVariants as seat
pub use Rattle.kf_words.specs.declared.sight.StepKind.{StepKind}
pub use Rattle.kf_words.specs.declared.sight.StepKind.TheVariants.{Tries as tries, Undoes as undoes, Leaves as leaves, Breaks as breaks, Restores as restores, Looks as looks, Parts as parts, Hides as hides, LooksHidden as looks_hidden, Shows as shows, Releases as releases, SeesHolds as sees_holds, CountsHold as counts_hold, Shares as shares, Sleeps as sleeps, Awakes as awakes, LoadsSleepers as loads_sleepers, LoadsHold as loads_hold, PinsHold as pins_hold, UnpinsHold as unpins_hold, Splits as splits, StoresFresh as stores_fresh, Births as births, TakesBias as takes_bias, MarksNode as marks_node, LooksOver as looks_over, Unlinks as unlinks, Notes as notes, Reports as reports, Answers as answers, Compares as compares, SeesHoldsAt as sees_holds_at, CountsHoldAt as counts_hold_at, HandsOn as hands_on, StoresNode as stores_node, ReadsNode as reads_node}
use Rattle.kf_words.specs.Layout.{bit, bias, doom, hide, linked, one_generation, active_index, hold_index, sleepers_index, opening_words, HasSpare, node_index, MayPinAt}
use Rattle.kf_words.specs.Rule.{bare_world, last_key}
use Rattle.kf_words.specs.Steps.{caller_of, no_master, master_of, state_at, after_try, after_undo, after_leave, after_break, after_restore, after_look, after_part, after_hide, after_look_hidden, after_show, after_release, after_miss, after_count, after_share, new_hold, spent_hold, unmoved, after_split, hold_for, with_load, with_pin, without_pin, after_store, with_birth, with_marks, activated_marks, doomed_marks, with_look, without_node, unread, opened, after_count_at, kept}
use Rattle.kf_words.specs.Callers.{IsAtRest, HasReference, IsInPhase}
use Rattle.kf_words.specs.Nodes.{FoundRoom, FoundFree, HasMarks, HasLooked, marks_of}

-- the words, and the views of all seats
abbrev pub Table : Type 0
Table = State (Unit {0}) View

-- the Master's view, which is that of the first seat
abbrev pub master_in : List View → MasterView
master_in [] = no_master
master_in (v ∷ vs) = master_of v

-- the views of the callers, which have all seats except the first
abbrev pub callers_in : List View → List CallerView
callers_in [] = []
callers_in (v ∷ vs) = map caller_of vs

-- the world that the views of all seats name
abbrev pub world : Table → BareWorld
world t = bare_world (master_in t.views) (callers_in t.views)

-- the word with k added, modulo 2^64
abbrev pub plus : ℕ → ℕ → ℕ
plus k n = (n + k) % 2 ^ 64

-- the word with k subtracted, modulo 2^64
abbrev pub minus : ℕ → ℕ → ℕ
minus k n = (n + (2 ^ 64 - k)) % 2 ^ 64

-- the word as it was: a load does not change it
abbrev pub same : ℕ → ℕ
same n = n

-- the word with the bit HIDE set, whether or not it was set before
abbrev pub with_hide : ℕ → ℕ
with_hide n = bit_or n hide

-- the seat at this place, which had the first view, changes this word by f, and has the second view
-- afterwards. Nothing else changes
pub record Plays (t : Table) (place word : ℕ) (f : ℕ → ℕ) (before after : View) (t' : Table) : Type 0 where
  pub there : get_elem? t.views place ≡ some before
  pub fits : slice_index t.words word < 18446744073709551616
  pub becomes : t' ≡ stepped t word (f (slice_index t.words word)) place [] after keeps

-- the caller of this number has this view. The seats of callers come after that of the Master
abbrev pub IsSeated : Table → ℕ → CallerView → Type 0
IsSeated t j c = get_elem? t.views (suc j) ≡ some (seat.Caller c)

-- a step of the caller of this number on a word of its slot, if its own view allows it. The word that the
-- step finds goes into the view
abbrev pub CallerPlays : (ℕ → CallerView → CallerView) → (CallerView → Type 0) → (ℕ → ℕ) → (ℕ → ℕ) → Table → ℕ
    → Table → Type 0
CallerPlays after May index f t j t' = (c : CallerView) × May c
    × Plays t (suc j) (index c.key.slot) f (seat.Caller c)
    (seat.Caller (after (slice_index t.words (index c.key.slot)) c)) t'

-- a step of the Master on a word of this slot, if its own view allows it. The word that the step finds goes
-- into the view
abbrev pub MasterPlays : (ℕ → ℕ → MasterView → MasterView) → (MasterView → Type 0) → (ℕ → ℕ) → (ℕ → ℕ) → Table
    → ℕ → Table → Type 0
MasterPlays after May index f t slot t' = (m : MasterView) × May m
    × Plays t 0 (index slot) f (seat.Master m)
    (seat.Master (after slot (slice_index t.words (index slot)) m)) t'

-- the pinned hold of this slot goes to a new seat, which comes after all others
abbrev pub MasterSplits : Table → ℕ → Table → Type 0
MasterSplits t slot t' = (m : MasterView)
    × (get_elem? t.views 0 ≡ some (seat.Master m)) × (slot < length m.slots) × (m.pinning ≡ Some slot)
    × (t' ≡ record {
      words = t.words;
      homes = t.homes;
      views = slice_set t.views 0 (seat.Master (after_split m)) ++ seat.Caller (hold_for m m.pinning) ∷ [];
    })

-- the caller was turned away, and its try is not yet undone
abbrev pub HasUndoDue : CallerView → Type 0
HasUndoDue c = (c.phase ≡ Turned) × (c.undo_due ≡ true)

-- the caller may release its hold: it is in a phase that allows this, and has no try to undo
abbrev pub MayRelease : CallerView → Type 0
MayRelease c = (may_release c.phase ≡ true) × (c.undo_due ≡ false)

-- the caller may count one more hold of its key: it is at rest, no hold that it counted waits for a seat, and
-- its slot's hold word has a spare place
abbrev pub MayCount : Table → CallerView → Type 0
MayCount t c = IsAtRest c × (c.pinning ≡ None)
    × HasSpare (master_in t.views).limit (slice_index t.words (hold_index c.key.slot))

-- the caller is at rest, and the hold of its key that it counted waits for its seat
abbrev pub MayShare : CallerView → Type 0
MayShare c = IsAtRest c × (c.pinning ≡ Some c.key)

-- the caller may count one more hold in the hold word of this slot. It is at rest, no hold that it counted
-- waits for a seat, and the slot has a linked node and a spare place
abbrev pub MayCountAt : Table → ℕ → CallerView → Type 0
MayCountAt t slot c = IsAtRest c × (c.pinning ≡ None)
    × MayPinAt (master_in t.views).limit (slice_index t.words (hold_index slot))

-- the hold that a caller counted of its key goes to a new seat, which comes after all others
abbrev pub CallerShares : Table → ℕ → Table → Type 0
CallerShares t j t' = (c : CallerView) × MayShare c × IsSeated t j c
    × (t' ≡ record {
      words = t.words;
      homes = t.homes;
      views = slice_set t.views (suc j) (seat.Caller (after_share c)) ++ seat.Caller (new_hold c.key) ∷ [];
    })

-- a step of the caller of this number on the hold word of any slot, if its own view allows it. The word that
-- the step finds goes into the view
abbrev pub CallerPlaysAt : ℕ → (ℕ → CallerView → CallerView) → (CallerView → Type 0) → (ℕ → ℕ) → Table → ℕ
    → Table → Type 0
CallerPlaysAt slot after May f t j t' = (c : CallerView) × May c
    × Plays t (suc j) (hold_index slot) f (seat.Caller c)
    (seat.Caller (after (slice_index t.words (hold_index slot)) c)) t'

-- a load of any word by the caller of this number, which is at rest
abbrev pub CallerLoads : ℕ → Table → ℕ → Table → Type 0
CallerLoads word t j t' = (c : CallerView) × IsAtRest c
    × Plays t (suc j) word same (seat.Caller c) (seat.Caller (after_miss (slice_index t.words word) c)) t'

-- the hold that a caller counted, of whatever key, goes to a new seat of that key, which comes after all
-- others
abbrev pub CallerHandsOn : Table → ℕ → Table → Type 0
CallerHandsOn t j t' = (c : CallerView) × (key : Key) × IsAtRest c × (c.pinning ≡ Some key) × IsSeated t j c
    × (t' ≡ record {
      words = t.words;
      homes = t.homes;
      views = slice_set t.views (suc j) (seat.Caller (after_share c)) ++ seat.Caller (new_hold key) ∷ [];
    })

-- the caller has this slot
abbrev pub IsAt : ℕ → CallerView → Type 0
IsAt slot c = c.key.slot ≡ slot

-- the caller of this number has this slot, and holds it
abbrev pub HoldsSlot : Table → ℕ → ℕ → Type 0
HoldsSlot t slot j = (c : CallerView) × IsSeated t j c × (c.key.slot ≡ slot) × (c.phase ≢ Spent)

-- the caller of this number is drained on the linked node of this slot
abbrev pub IsDrainedOn : Table → ℕ → ℕ → Type 0
IsDrainedOn t slot j = (c : CallerView) × IsSeated t j c × (c.key.slot ≡ slot) × (c.phase ≡ Drained)
    × (is_some (marks_of (master_in t.views) c.key) ≡ true)

-- a load that still counts found room in this slot, and no hold that the Master counted waits for its seat
abbrev pub SeesRoom : ℕ → MasterView → Type 0
SeesRoom slot m = (slot < length m.slots) × (m.pinning ≡ None) × FoundRoom m slot

-- the Master counted a hold of this slot, which has no seat yet
abbrev pub HasPin : ℕ → MasterView → Type 0
HasPin slot m = (slot < length m.slots) × (m.pinning ≡ Some slot)

-- a load that still counts found this slot free
abbrev pub SeesFree : ℕ → MasterView → Type 0
SeesFree slot m = (slot < length m.slots) × FoundFree m slot

-- the Master has just stored a new active word in this slot
abbrev pub HasFresh : ℕ → MasterView → Type 0
HasFresh slot m = (slot < length m.slots) × (m.fresh ≡ Some slot)

-- one of the five words of a node, the one at this place, may be stored for the node that is about to be born
-- in this slot. The Master has just stored a new active word there
abbrev pub MayNote : ℕ → ℕ → MasterView → Type 0
MayNote slot place m = HasFresh slot m × (place < 5)

-- the slot has a node with these marks, which is not doomed
abbrev pub IsUndoomed : ℕ → NodeFlags → MasterView → Type 0
IsUndoomed slot x m = HasMarks m slot x × (x.doomed ≡ false)

-- the slot has a node, and the Master has just found its active word drained
abbrev pub SeesDrained : ℕ → MasterView → Type 0
SeesDrained slot m = ((x : NodeFlags) × HasMarks m slot x) × HasLooked m slot

-- the Master's step changes no word and no view
abbrev pub MasterStays : Table → Table → Type 0
MasterStays t t' = ((m : MasterView) × (get_elem? t.views 0 ≡ some (seat.Master m))) × (t' ≡ t)

-- a seat of this key that holds nothing is added after all others
abbrev pub Comes : Table → Key → Table → Type 0
Comes t key t' = t' ≡ record {
  words = t.words;
  homes = t.homes;
  views = t.views ++ seat.Caller (spent_hold key) ∷ [];
}

-- a new seat of this caller's key, which holds nothing, is added to carry what the caller has seen. The
-- caller holds its slot
abbrev pub CallerReports : Table → ℕ → Table → Type 0
CallerReports t j t' = (c : CallerView) × (c.phase ≢ Spent) × IsSeated t j c × Comes t c.key t'

-- a new seat of the root's key, which holds nothing, is added to carry what the Master has seen
abbrev pub MasterAnswers : Table → Table → Type 0
MasterAnswers t t' = (m : MasterView) × (get_elem? t.views 0 ≡ some (seat.Master m)) × (0 < length m.slots)
    × Comes t (last_key 0 (state_at m 0)) t'

-- one atomic step of the table, by any seat. For each kind of step, this says how it changes the seat's view,
-- what the view must say before it, which of the slot's words it is on, and how it changes that word
abbrev pub WordStep : Table → StepKind → Table → Type 0
WordStep t (tries j) t' = CallerPlays after_try IsAtRest active_index (plus 1) t j t'
WordStep t (undoes j) t' = CallerPlays (λ _. after_undo) HasUndoDue active_index (minus 1) t j t'
WordStep t (leaves j) t' = CallerPlays after_leave HasReference active_index (minus 1) t j t'
WordStep t (breaks j) t' = CallerPlays after_break (IsInPhase Running) active_index (minus 1) t j t'
WordStep t (restores j) t' = CallerPlays after_restore (IsInPhase Broken) active_index (plus 1) t j t'
WordStep t (looks j) t' = CallerPlays after_look IsAtRest active_index same t j t'
WordStep t (parts j) t' = CallerPlays after_part (IsInPhase Drained) hold_index same t j t'
WordStep t (hides j) t' = CallerPlays after_hide IsAtRest active_index with_hide t j t'
WordStep t (looks_hidden j) t' = CallerPlays after_look_hidden (IsInPhase Hiding) active_index same t j t'
WordStep t (shows j) t' = CallerPlays after_show (IsInPhase Hidden) active_index (minus hide) t j t'
WordStep t (releases j) t' = CallerPlays after_release MayRelease hold_index (minus 1) t j t'
WordStep t (sees_holds j) t' = CallerPlays after_miss IsAtRest hold_index same t j t'
WordStep t (counts_hold j) t' = CallerPlays after_count (MayCount t) hold_index (plus 1) t j t'
WordStep t (shares j) t' = CallerShares t j t'
WordStep t (sleeps slot j) t' = CallerPlays unmoved (IsAt slot) sleepers_index (plus 1) t j t'
WordStep t (awakes slot j) t' = CallerPlays unmoved (IsAt slot) sleepers_index (minus 1) t j t'
WordStep t (loads_sleepers slot j) t' = CallerPlays unmoved (IsAt slot) sleepers_index same t j t'
WordStep t (loads_hold slot) t' = MasterPlays with_load (λ m. slot < length m.slots) hold_index same t slot t'
WordStep t (pins_hold slot) t' = MasterPlays (unread with_pin) (SeesRoom slot) hold_index (plus 1) t slot t'
WordStep t (unpins_hold slot) t' =
    MasterPlays (unread without_pin) (HasPin slot) hold_index (minus 1) t slot t'
WordStep t (splits slot) t' = MasterSplits t slot t'
WordStep t (stores_fresh slot) t' =
    MasterPlays (unread after_store) (SeesFree slot) active_index (λ _. bias) t slot t'
WordStep t (births slot) t' =
    MasterPlays (unread with_birth) (HasFresh slot) hold_index (plus (one_generation + linked)) t slot t'
WordStep t (takes_bias slot) t' =
    MasterPlays (unread (with_marks activated_marks)) (λ m. HasMarks m slot fresh_marks) active_index
    (minus bias) t slot t'
WordStep t (marks_node slot) t' = (x : NodeFlags)
    × MasterPlays (unread (with_marks doomed_marks)) (IsUndoomed slot x) active_index
    (plus (bit x.activated bias + doom)) t slot t'
WordStep t (looks_over slot) t' =
    MasterPlays with_look (λ m. slot < length m.slots) active_index same t slot t'
WordStep t (unlinks slot) t' =
    MasterPlays (unread without_node) (SeesDrained slot) hold_index (minus linked) t slot t'
WordStep t (notes note) t' = MasterStays t t'
WordStep t (reports j) t' = CallerReports t j t'
WordStep t answers t' = MasterAnswers t t'
WordStep t compares t' = MasterStays t t'
WordStep t (sees_holds_at slot j) t' = CallerPlaysAt slot after_miss IsAtRest same t j t'
WordStep t (counts_hold_at slot j) t' =
    CallerPlaysAt slot (after_count_at slot) (MayCountAt t slot) (plus 1) t j t'
WordStep t (hands_on j) t' = CallerHandsOn t j t'
WordStep t (stores_node slot place n) t' =
    MasterPlays kept (MayNote slot place) (node_index place) (λ _. n) t slot t'
WordStep t (reads_node slot place j) t' = CallerLoads (node_index place slot) t j t'

-- these steps, one after another, lead from the first table to the second
abbrev pub WordRun : Table → List StepKind → Table → Type 0
WordRun t [] t' = t' ≡ t
WordRun t (kind ∷ kinds) t' = (between : Table) × WordStep t kind between × WordRun between kinds t'

-- the table at the opening
abbrev pub opened_table : ℕ → ℕ → ℕ → Table
opened_table limit slots start =
    table_opening (opening_words slots start) [] (seat.Master (opened limit slots start))

-- a hold of this slot may get its seat: a node is linked there, or a caller holds the slot
abbrev pub IsPinnable : Table → ℕ → Type 0
IsPinnable t slot =
    (is_some (state_at (master_in t.views) slot).marks ≡ true) ⊎ ((j : ℕ) × HoldsSlot t slot j)

-- the Master has a reason for this step, if the step needs one. Three of its steps do. A hold that it counted
-- gets a seat only if the slot's node is linked, or a caller holds the slot. A node is taken out only while a
-- caller is drained on it. A seat of the root's key that holds nothing is added only if the root is linked or
-- held. No other step needs a reason
abbrev pub IsAttended : Table → StepKind → Type 0
IsAttended t (tries j) = Unit {0}
IsAttended t (undoes j) = Unit {0}
IsAttended t (leaves j) = Unit {0}
IsAttended t (breaks j) = Unit {0}
IsAttended t (restores j) = Unit {0}
IsAttended t (looks j) = Unit {0}
IsAttended t (parts j) = Unit {0}
IsAttended t (hides j) = Unit {0}
IsAttended t (looks_hidden j) = Unit {0}
IsAttended t (shows j) = Unit {0}
IsAttended t (releases j) = Unit {0}
IsAttended t (sees_holds j) = Unit {0}
IsAttended t (counts_hold j) = Unit {0}
IsAttended t (shares j) = Unit {0}
IsAttended t (sleeps slot j) = Unit {0}
IsAttended t (awakes slot j) = Unit {0}
IsAttended t (loads_sleepers slot j) = Unit {0}
IsAttended t (loads_hold j) = Unit {0}
IsAttended t (pins_hold j) = Unit {0}
IsAttended t (unpins_hold j) = Unit {0}
IsAttended t (stores_fresh j) = Unit {0}
IsAttended t (births j) = Unit {0}
IsAttended t (takes_bias j) = Unit {0}
IsAttended t (marks_node j) = Unit {0}
IsAttended t (looks_over j) = Unit {0}
IsAttended t (notes note) = Unit {0}
IsAttended t (reports j) = Unit {0}
IsAttended t compares = Unit {0}
IsAttended t answers = IsPinnable t 0
IsAttended t (splits slot) = IsPinnable t slot
IsAttended t (unlinks slot) = (j : ℕ) × IsDrainedOn t slot j
IsAttended t (sees_holds_at slot j) = Unit {0}
IsAttended t (counts_hold_at slot j) = Unit {0}
IsAttended t (hands_on j) = Unit {0}
IsAttended t (stores_node slot place n) = Unit {0}
IsAttended t (reads_node slot place j) = Unit {0}

-- a run of these steps in which each step is attended
abbrev pub AttendedRun : Table → List StepKind → Table → Type 0
AttendedRun t [] t' = t' ≡ t
AttendedRun t (kind ∷ kinds) t' = (between : Table) × IsAttended t kind × WordStep t kind between
    × AttendedRun between kinds t'
