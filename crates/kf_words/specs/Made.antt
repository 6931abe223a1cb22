-- What a step of a seat says: which kind of step it was, that it was the next step of the one run, and to
-- what table that run had led.
use Rattle.std.specs.Prelude.{◌≡◌, ℕ, zero, suc, ◌-◌, ◌≢◌, Bool, true, false, ◌==◌, if◌then◌else◌, List, [], ◌∷◌, ◌++◌, slice_index}
use mathlib.Core.Option.{some}
use lib.ListN.{get_elem?}
use Rattle.atomic_table.specs.Table.{Step}
use Rattle.kf_core.specs.declared.key.Node.{Node}
use Rattle.kf_core.specs.Bare.{is_live}
use Rattle.kf_words.specs.declared.counts.Counts.{Counts}
use Rattle.kf_words.specs.declared.sight.Seen.{Seen}
use Rattle.kf_words.specs.declared.view.View.TheVariants as seat
use Rattle.kf_words.specs.Layout.{active_index, hold_index, sleepers_index, hold_word, active_word, holds_in, users_in, is_full, last_user_wakes, wants_wake}
use Rattle.kf_words.specs.Rule.{Shown}
use Rattle.kf_words.specs.Steps.{Seated, Sighted, plain, caller_of, after_try, after_undo, after_leave, after_break, after_restore, after_look, after_part, after_hide, after_look_hidden, after_release, after_miss, after_count, after_share, unmoved, CallerBecomes, ShowsKey}
use Rattle.kf_words.specs.declared.view.CallerView.{CallerView}
use Rattle.kf_words.specs.Callers.{Handle, Owed, CallerSight, caller_sight, seat_view}
use Rattle.kf_words.specs.Nodes.{MasterSight}
use Rattle.kf_words.specs.TableSteps.{Table, world, StepKind, IsSeated, WordStep, WordRun, tries, undoes, leaves, breaks, restores, looks, parts, hides, looks_hidden, shows, releases, sees_holds, counts_hold, sleeps, awakes, loads_sleepers, loads_hold, pins_hold, stores_fresh, births, looks_over, unlinks, stores_node}
use Rattle.kf_words.specs.Notes.{notes_of}
use Rattle.kf_words.specs.History.{opened_as}
use Rattle.kf_words.specs.NodeWords.{kind_word, first_word, second_word}

-- the run that had been seen went on by the steps between and then by this step, and has now been seen up to
-- this step
abbrev pub SawNext : Seen → List StepKind → StepKind → Seen → Type 0
SawNext before between kind after =
    after ≡ record { opening = before.opening; steps = (before.steps ++ between) ++ kind ∷ [] }

-- from the opening, the run that was seen and then these steps lead to this table
abbrev pub LeadsTo : Seen → List StepKind → Table → Type 0
LeadsTo seen between t = WordRun (opened_as seen.opening) (seen.steps ++ between) t

-- the caller's step was the next step of the one run. From all that the caller had seen before, the run had
-- gone on to the table that the step found. That table met the rule, and had the view that the caller had
-- before the step; the table that the step left has the view after it
pub record WasMade (kind : ℕ → StepKind) (before after : CallerSight) : Type 0 where
  pub between : List StepKind
  pub found : Table
  pub left : Table
  pub caller : ℕ
  pub run : LeadsTo before.seen between found
  pub shown : Shown before.seen.opening.slots before.seen.opening.holds found
  pub step : WordStep found (kind caller) left
  pub was : IsSeated found caller before.view
  pub is : IsSeated left caller after.view
  pub seen : SawNext before.seen between (kind caller) after.seen

-- what a caller's step says: that it is on the word that this index gives for its slot, what the view is
-- after it, and that it was the next step of the one run
abbrev pub Makes : (ℕ → ℕ) → (ℕ → StepKind) → (Step (Unit {0}) → Seated → ℕ → Seated → Type 0)
    → Step (Unit {0}) → Sighted → ℕ → Sighted → Type 0
Makes index kind tells st me found me' =
    (st.word ≡ index (caller_of me.0.view).key.slot)
    × (tells st (plain me) found (plain me') × WasMade kind (caller_sight me.0) (caller_sight me'.0))

-- what is said by a step on the count of its slot's sleepers, which leaves the view as it was
abbrev pub MakesOnSleepers : (ℕ → ℕ → StepKind) → Step (Unit {0}) → Sighted → ℕ → Sighted → Type 0
MakesOnSleepers kind st me found me' =
    Makes sleepers_index (kind (caller_of me.0.view).key.slot) (CallerBecomes unmoved) st me found me'

-- as WasMade says: this seat made a step of this kind on the count of its slot's sleepers
abbrev pub WasMadeOnSleepers : (ℕ → ℕ → StepKind) → CallerSight → CallerSight → Type 0
WasMadeOnSleepers kind before after = WasMade (kind before.view.key.slot) before after

-- this seat counted itself among the sleepers of its slot, and then took itself off the count
abbrev pub WasAsleep : CallerSight → CallerSight → Type 0
WasAsleep before after = (counted : CallerSight)
    × WasMadeOnSleepers sleeps before counted × WasMadeOnSleepers awakes counted after

-- this seat rested: if it was to be counted, it slept, counted among the sleepers; otherwise it made no step
abbrev pub Rested : Bool → CallerSight → CallerSight → Type 0
Rested true before after = WasAsleep before after
Rested false before after = after ≡ before

-- this seat loaded the count of its slot's sleepers, by a step that found this number
abbrev pub LoadedSleepers : CallerSight → CallerSight → ℕ → Type 0
LoadedSleepers before after found = (made : WasMadeOnSleepers loads_sleepers before after)
    × (slice_index made.found.words (sleepers_index before.view.key.slot) ≡ found)

-- what a load of the count of sleepers says: the number that it found. The view stays as it was
abbrev pub MakesSleeperLoad : Step (Unit {0}) → Sighted → ℕ → Sighted → Type 0
MakesSleeperLoad st me found me' = (st.word ≡ sleepers_index (caller_of me.0.view).key.slot)
    × (CallerBecomes unmoved st (plain me) found (plain me')
    × LoadedSleepers (caller_sight me.0) (caller_sight me'.0) found)

-- the wake that a step may owe was spent: if one is owed, this seat's next step loaded the count of sleepers;
-- otherwise this seat made no step
abbrev pub WakeSpent : Bool → CallerSight → CallerSight → Type 0
WakeSpent true before after = (found : ℕ) × LoadedSleepers before after found
WakeSpent false before after = after ≡ before

-- a step of this kind, which took one user off the active word, and then the wake that it owes
abbrev pub WasMadeThenWake : (ℕ → StepKind) → CallerSight → CallerSight → Type 0
WasMadeThenWake kind before after = (made : CallerSight) × WasMade kind before made
    × WakeSpent (wants_wake (made.view.found - 1)) made after

-- what a try on the active word says: whether the caller runs, or has the try to undo
abbrev pub MakesTry : Step (Unit {0}) → Sighted → ℕ → Sighted → Type 0
MakesTry = Makes active_index tries (CallerBecomes after_try)

-- as WasMade says: this seat made a try between these two sights
abbrev pub WasATry : CallerSight → CallerSight → Type 0
WasATry = WasMade tries

-- as WasMade says: this seat undid a refused try between these two sights
abbrev pub WasAUndo : CallerSight → CallerSight → Type 0
WasAUndo = WasMade undoes

-- a refused try was undone by a step that found this word. The view after it does not say which word that was
abbrev pub WasUndone : CallerSight → CallerSight → ℕ → Type 0
WasUndone before after found = (made : WasAUndo before after)
    × (slice_index made.found.words (active_index before.view.key.slot) ≡ found)

-- what is said by the step that undoes a refused try: the view after it, and the word that it found
abbrev pub MakesUndo : Step (Unit {0}) → Sighted → ℕ → Sighted → Type 0
MakesUndo st me found me' = (st.word ≡ active_index (caller_of me.0.view).key.slot)
    × (CallerBecomes (λ _. after_undo) st (plain me) found (plain me')
    × WasUndone (caller_sight me.0) (caller_sight me'.0) found)

-- what is said by the step on the active word that ends a call
abbrev pub MakesLeave : Step (Unit {0}) → Sighted → ℕ → Sighted → Type 0
MakesLeave = Makes active_index leaves (CallerBecomes after_leave)

-- as WasMade says: this seat ended a call between these two sights
abbrev pub WasALeave : CallerSight → CallerSight → Type 0
WasALeave = WasMade leaves

-- what is said by a step on the active word that gives up the reference inside a call
abbrev pub MakesBreak : Step (Unit {0}) → Sighted → ℕ → Sighted → Type 0
MakesBreak = Makes active_index breaks (CallerBecomes after_break)

-- as WasMade says: this seat gave up a call's reference between these two sights
abbrev pub WasABreak : CallerSight → CallerSight → Type 0
WasABreak = WasMade breaks

-- what is said by a step on the active word that takes a reference again inside a call
abbrev pub MakesRestore : Step (Unit {0}) → Sighted → ℕ → Sighted → Type 0
MakesRestore = Makes active_index restores (CallerBecomes after_restore)

-- as WasMade says: this seat took a call's reference again between these two sights
abbrev pub WasARestore : CallerSight → CallerSight → Type 0
WasARestore = WasMade restores

-- what a waiting caller's load of the active word says: whether the word is drained
abbrev pub MakesLook : Step (Unit {0}) → Sighted → ℕ → Sighted → Type 0
MakesLook = Makes active_index looks (CallerBecomes after_look)

-- as WasMade says: this seat loaded the active word, to look for the drain, between these two sights
abbrev pub WasALook : CallerSight → CallerSight → Type 0
WasALook = WasMade looks

-- what a drained caller's load of the hold word says: whether a node is still linked
abbrev pub MakesPart : Step (Unit {0}) → Sighted → ℕ → Sighted → Type 0
MakesPart = Makes hold_index parts (CallerBecomes after_part)

-- as WasMade says: this seat, as a drained caller, loaded the hold word between these two sights
abbrev pub WasAPart : CallerSight → CallerSight → Type 0
WasAPart = WasMade parts

-- what is said by a step that sets the bit HIDE: whether it found the bit clear, so that this caller now
-- hides the key
abbrev pub MakesHide : Step (Unit {0}) → Sighted → ℕ → Sighted → Type 0
MakesHide = Makes active_index hides (CallerBecomes after_hide)

-- as WasMade says: this seat set the bit HIDE between these two sights
abbrev pub WasAHide : CallerSight → CallerSight → Type 0
WasAHide = WasMade hides

-- what a hider's load of the active word says: whether nobody uses the node
abbrev pub MakesLookHidden : Step (Unit {0}) → Sighted → ℕ → Sighted → Type 0
MakesLookHidden = Makes active_index looks_hidden (CallerBecomes after_look_hidden)

-- as WasMade says: this seat, as a hider, loaded the active word between these two sights
abbrev pub WasALookHidden : CallerSight → CallerSight → Type 0
WasALookHidden = WasMade looks_hidden

-- what is said by a step that clears the bit HIDE: also that it found the bit set
abbrev pub MakesShow : Step (Unit {0}) → Sighted → ℕ → Sighted → Type 0
MakesShow = Makes active_index shows ShowsKey

-- as WasMade says: this seat cleared the bit HIDE between these two sights
abbrev pub WasAShow : CallerSight → CallerSight → Type 0
WasAShow = WasMade shows

-- what is said by a step on the hold word that releases a caller's hold
abbrev pub MakesRelease : Step (Unit {0}) → Sighted → ℕ → Sighted → Type 0
MakesRelease = Makes hold_index releases (CallerBecomes after_release)

-- as WasMade says: this seat released its hold between these two sights
abbrev pub WasARelease : CallerSight → CallerSight → Type 0
WasARelease = WasMade releases

-- this seat released its hold, by a step that found this hold word in its slot
abbrev pub WasReleasedAt : CallerSight → CallerSight → ℕ → Type 0
WasReleasedAt before after found = (made : WasARelease before after)
    × (hold_word made.found.words before.view.key.slot ≡ found)

-- what is said by a step that releases a caller's hold and names a number. It says the view after it, the
-- hold word that it found, and that this number is the greatest number of holds of a slot in this table
abbrev pub MakesReleaseOf : ℕ → Step (Unit {0}) → Sighted → ℕ → Sighted → Type 0
MakesReleaseOf most st me found me' = (st.word ≡ hold_index (caller_of me.0.view).key.slot)
    × (CallerBecomes after_release st (plain me) found (plain me')
    × WasReleasedAt (caller_sight me.0) (caller_sight me'.0) found)
    × (most ≡ me.0.seen.opening.holds)

-- a seat released its hold by one step, and `full` says whether the step found the greatest number of holds
-- in its slot
abbrev pub GavePlaceBack : CallerSight → Bool → Type 0
GavePlaceBack before full = (after : CallerSight) × (found : ℕ) × WasReleasedAt before after found
    × (full ≡ is_full before.seen.opening.holds found)

-- as WasMade says: between these two sights, this seat made a step on the hold word that counted nothing
abbrev pub WasAMiss : CallerSight → CallerSight → Type 0
WasAMiss = WasMade sees_holds

-- what is said by a caller's load of the hold word that also names the greatest number of holds of a slot
abbrev pub MakesMiss : Step (Unit {0}) → Sighted → ℕ → Sighted → Type 0
MakesMiss st me found me' =
    Makes hold_index sees_holds (CallerBecomes after_miss) st me found me'
    × (st.first ≡ me.0.seen.opening.holds)

-- as WasMade says: this seat counted one more hold between these two sights
abbrev pub WasACount : CallerSight → CallerSight → Type 0
WasACount = WasMade counts_hold

-- the caller's view after an exchange that expected this word: if it found that word, one more hold is
-- counted
abbrev pub after_exchange : ℕ → ℕ → CallerView → CallerView
after_exchange old found c = if found == old then after_count found c else after_miss found c

-- the exchange counted one more hold if it found the word that it expected, and otherwise it counted nothing
abbrev pub WasAnExchange : ℕ → ℕ → CallerSight → CallerSight → Type 0
WasAnExchange old found before after =
    (found ≡ old → WasACount before after) × (found ≢ old → WasAMiss before after)

-- what an exchange on the hold word says
abbrev pub MakesExchange : Step (Unit {0}) → Sighted → ℕ → Sighted → Type 0
MakesExchange st me found me' = (st.word ≡ hold_index (caller_of me.0.view).key.slot)
    × (CallerBecomes (after_exchange st.first) st (plain me) found (plain me')
    × WasAnExchange st.first found (caller_sight me.0) (caller_sight me'.0))

-- one more hold was counted, and went to a new seat, which has seen as much of the one run as the seat that
-- counted it
pub record WasDoubled (before after : CallerSight) (seen : Seen) : Type 0 where
  pub counted : CallerSight
  pub count : WasACount before counted
  pub view : after.view ≡ after_share counted.view
  pub same : after.seen ≡ counted.seen
  pub told : seen ≡ counted.seen

-- this many steps of this kind, one after another, with no other step of this seat between them, each as
-- WasMade says
abbrev pub WereMade : (ℕ → StepKind) → ℕ → CallerSight → CallerSight → Type 0
WereMade kind zero before after = after ≡ before
WereMade kind (suc count) before after =
    (between : CallerSight) × WereMade kind count before between × WasMade kind between after

-- this many looks, by steps of this kind, and a rest after each. In a rest, the seat is counted among the
-- sleepers if the word that the look found passes this test
abbrev pub LookedAndRested : (ℕ → StepKind) → (ℕ → Bool) → ℕ → CallerSight → CallerSight → Type 0
LookedAndRested kind is_counted zero before after = after ≡ before
LookedAndRested kind is_counted (suc count) before after = (rested : CallerSight) × (looked : CallerSight)
    × LookedAndRested kind is_counted count before rested × WasMade kind rested looked
    × Rested (is_counted looked.view.found) looked after

-- all the steps of a wait: it looks and rests, any number of times, and then looks once more
abbrev pub Waited : (ℕ → StepKind) → (ℕ → Bool) → CallerSight → CallerSight → Type 0
Waited kind is_counted before after = (count : ℕ) × (rested : CallerSight)
    × LookedAndRested kind is_counted count before rested × WasMade kind rested after

-- all the steps of a wait for a drain. In a rest, the seat is counted if the last user to leave wakes the
-- sleepers
abbrev pub WaitedForDrain : CallerSight → CallerSight → Type 0
WaitedForDrain = Waited looks last_user_wakes

-- all the steps of a wait until nobody uses a node whose key is hidden. The seat is counted in each rest
abbrev pub WaitedForHidden : CallerSight → CallerSight → Type 0
WaitedForHidden = Waited looks_hidden (λ _. true)

-- a try, and the step that undoes it
abbrev pub WasATryUndone : CallerSight → CallerSight → Type 0
WasATryUndone before after = (tried : CallerSight) × WasATry before tried × WasAUndo tried after

-- this seat ended a call, and spent the wake that this owes
abbrev pub WasALeaveThenWake : CallerSight → CallerSight → Type 0
WasALeaveThenWake = WasMadeThenWake leaves

-- this seat gave up a call's reference, and spent the wake that this owes
abbrev pub WasABreakThenWake : CallerSight → CallerSight → Type 0
WasABreakThenWake = WasMadeThenWake breaks

-- a try, the step that undoes it, and then the wake that this owes
abbrev pub WasATryUndoneThenWake : CallerSight → CallerSight → Type 0
WasATryUndoneThenWake before after = (tried : CallerSight) × (undone : CallerSight) × (found : ℕ)
    × WasATry before tried × WasUndone tried undone found × WakeSpent (wants_wake (found - 1)) undone after

-- what a refused try owes, by the word that its second step found
abbrev pub OwedForUndo : Handle → Handle → Owed → Type 0
OwedForUndo before after due = (due.slot ≡ after.key.slot) × (tried : CallerSight)
    × WasATry (seat_view before) tried × WasUndone tried (seat_view after) due.found

-- a try was made, as WasMade says, and in the table that it found the key was live
pub record WasLetInLive (before after : CallerSight) : Type 0 where
  pub try : WasATry before after
  pub live : is_live (world try.found) after.view.key ≡ true

-- from all that the caller had seen before, the one run had gone on to a table in which this word was as
-- found, and the caller's view as before. From there the run went on to what the caller has seen after
pub record WasFound (before after : CallerSight) (word found : ℕ) : Type 0 where
  pub between : List StepKind
  pub later : List StepKind
  pub table : Table
  pub caller : ℕ
  pub run : LeadsTo before.seen between table
  pub there : IsSeated table caller before.view
  pub as_found : slice_index table.words word ≡ found
  pub goes_on : after.seen ≡ record {
    opening = before.seen.opening;
    steps = (before.seen.steps ++ between) ++ later;
  }

-- the active word of its slot was as the seat's last step found it, in a table of the one run
abbrev pub FoundThere : Handle → Handle → Type 0
FoundThere before after =
    WasFound (seat_view before) (seat_view after) (active_index before.key.slot) after.found

-- the hold word of its slot was as the seat's last step found it, in a table of the one run
abbrev pub FoundInHold : Handle → Handle → Type 0
FoundInHold before after =
    WasFound (seat_view before) (seat_view after) (hold_index before.key.slot) after.found

-- the Master's step was the next step of the one run. From all that the Master had seen before, the run had
-- gone on to the table that the step found, and nobody had added a note meanwhile. That table met the rule,
-- and had the view that the Master had before the step; the table that the step left has the view after it
pub record WasMadeByMaster (kind : StepKind) (before after : MasterSight) : Type 0 where
  pub between : List StepKind
  pub found : Table
  pub left : Table
  pub run : LeadsTo before.seen between found
  pub shown : Shown before.seen.opening.slots before.seen.opening.holds found
  pub step : WordStep found kind left
  pub was : get_elem? found.views 0 ≡ some (seat.Master before.view)
  pub is : get_elem? left.views 0 ≡ some (seat.Master after.view)
  pub alone : notes_of between ≡ []
  pub seen : SawNext before.seen between kind after.seen

-- the three words of a node were stored, one after another
abbrev pub WasNoted : ℕ → Node → MasterSight → MasterSight → Type 0
WasNoted slot node before after = (one : MasterSight) × (two : MasterSight)
    × WasMadeByMaster (stores_node slot 0 (kind_word node)) before one
    × WasMadeByMaster (stores_node slot 1 (first_word node)) one two
    × WasMadeByMaster (stores_node slot 2 (second_word node)) two after

-- a node was born: its new active word was stored, then the three words of the node were stored, and then its
-- slot got the next generation and the bit LINKED
abbrev pub WasBorn : ℕ → Node → MasterSight → MasterSight → Type 0
WasBorn slot node before after = (stored : MasterSight) × (noted : MasterSight)
    × WasMadeByMaster (stores_fresh slot) before stored × WasNoted slot node stored noted
    × WasMadeByMaster (births slot) noted after

-- the active word of this slot was loaded, and in the true case the node was then taken out of the slot
abbrev pub WasUnlinked : ℕ → Bool → MasterSight → MasterSight → Type 0
WasUnlinked slot true before after = (looked : MasterSight) × WasMadeByMaster (looks_over slot) before looked
    × WasMadeByMaster (unlinks slot) looked after
WasUnlinked slot false before after = WasMadeByMaster (looks_over slot) before after

-- a hold word was loaded, and then one more hold was counted there. The new seat has seen as much of the one
-- run as the Master had then, and the Master has seen nothing since
pub record WasCounted (slot : ℕ) (before : MasterSight) (seat after : Seen) : Type 0 where
  pub loaded : MasterSight
  pub counted : MasterSight
  pub load : WasMadeByMaster (loads_hold slot) before loaded
  pub pin : WasMadeByMaster (pins_hold slot) loaded counted
  pub told : seat ≡ counted.seen
  pub same : after ≡ counted.seen

-- one load of a slot's hold word found this many holds, and then one of its active word this many users
pub record WereLoaded (slot : ℕ) (counts : Counts) (before after : MasterSight) : Type 0 where
  pub loaded : MasterSight
  pub load : WasMadeByMaster (loads_hold slot) before loaded
  pub look : WasMadeByMaster (looks_over slot) loaded after
  pub holds_are : counts.holds ≡ holds_in (hold_word load.found.words slot)
  pub users_are : counts.users ≡ users_in (active_word look.found.words slot)
