-- The one run of all steps: what the rule says about it between any two steps.
use Rattle.std.specs.Prelude.{◌≡◌, ◌⊎◌, ℕ, List, [], ◌++◌, map, IsTrue}
use mathlib.Core.Option.{some}
use mathlib.Core.List.{IsPrefix}
use lib.ListN.{get_elem?}
use Rattle.atomic_table.specs.Table.{State}
use Rattle.kf_core.specs.declared.key.Key.{Key}
use Rattle.kf_core.specs.declared.caller.Phase.{Phase}
use Rattle.kf_core.specs.Bare.{IsCaller}
use Rattle.kf_core.specs.Phases.{saw_drain}
use Rattle.kf_core.specs.Safe.{NoneRunning}
use Rattle.kf_words.specs.declared.sight.Opening.{Opening}
use Rattle.kf_words.specs.declared.sight.Seen.{Seen}
use Rattle.kf_words.specs.declared.sight.Sight.{Sight}
use Rattle.kf_words.specs.declared.view.View.TheVariants as seat
use Rattle.kf_words.specs.Rule.{Shown, last_key}
use Rattle.kf_words.specs.Notes.{notes_of, history_of}
use Rattle.kf_words.specs.Steps.{opened, master_of, caller_of, state_at, after_split, hold_for, after_share, new_hold, spent_hold, hold_on}
use Rattle.kf_words.specs.TableSteps.{Table, StepKind, world, WordRun, opened_table}

-- the words, and what each seat knows
abbrev pub SeenTable : Type 0
SeenTable = State (Unit {0}) Sight

-- the table without what its seats have seen
abbrev pub erased : SeenTable → Table
erased t = record { words = t.words; homes = t.homes; views = map (λ (s : Sight). s.view) t.views }

-- the table with this opening
abbrev pub opened_as : Opening → Table
opened_as o = opened_table o.holds o.slots o.start

-- what the Master knows at the opening: nothing has been done
abbrev pub first_sight : Opening → Sight
first_sight o = record {
  view = seat.Master (opened o.holds o.slots o.start);
  seen = record { opening = o; steps = [] };
  shown = [];
}

-- what the Master of a table of no slots knows at the opening
abbrev pub no_sight : Sight
no_sight = first_sight (record { holds = 0; slots = 0; start = 0 })

-- what the Master knows after it gave a hold its seat
abbrev pub after_giving : Sight → Sight
after_giving s =
    record { view = seat.Master (after_split (master_of s.view)); seen = s.seen; shown = s.shown }

-- what the new seat of a pinned hold knows: it has seen as much of the run as the Master that gave the hold
abbrev pub given : Sight → Sight
given s = record {
  view = seat.Caller (hold_for (master_of s.view) (master_of s.view).pinning);
  seen = s.seen;
  shown = [];
}

-- what a caller knows after the hold that it counted went to a new seat
abbrev pub after_sharing : Sight → Sight
after_sharing s =
    record { view = seat.Caller (after_share (caller_of s.view)); seen = s.seen; shown = s.shown }

-- what the new seat of a hold knows if a caller counted the hold for its own key: it has seen as much of the
-- run as the caller
abbrev pub shared_out : Sight → Sight
shared_out s =
    record { view = seat.Caller (new_hold (caller_of s.view).key); seen = s.seen; shown = [] }

-- what a new seat of this key knows if it holds nothing: it has seen as much of the run as this seat
abbrev pub messenger : Key → Sight → Sight
messenger key s = record { view = seat.Caller (spent_hold key); seen = s.seen; shown = [] }

-- what the new seat that a caller sends to the Master knows
abbrev pub reported : Sight → Sight
reported s = messenger (caller_of s.view).key s

-- what the new seat that the Master sends to a caller knows
abbrev pub answered : Sight → Sight
answered s = messenger (last_key 0 (state_at (master_of s.view) 0)) s

-- what a seat knows once it has been shown what another seat has seen
abbrev pub hears : Sight → Sight → Sight
hears s from = record { view = s.view; seen = s.seen; shown = from.seen.steps }

-- what a seat knows once it has seen exactly as much as another seat
abbrev pub takes_over : Sight → Sight → Sight
takes_over s from = record { view = s.view; seen = from.seen; shown = s.shown }

-- what the new seat of a hold of any key knows if a caller counted the hold: it has seen as much of the run
-- as the caller
abbrev pub handed_on : Sight → Sight
handed_on s =
    record { view = seat.Caller (hold_on (caller_of s.view).pinning); seen = s.seen; shown = [] }

-- what was seen is a beginning of the run of these steps, from this opening
abbrev pub IsBeginning : Opening → Seen → List StepKind → Type 0
IsBeginning o seen log = (seen.opening ≡ o) × IsPrefix seen.steps log

-- the table at the opening meets the rule, and one run leads from there to this table; each seat has seen a
-- beginning of that run, and was shown a beginning of it; the Master's seat has seen all notes; and the words
-- show the views of all seats
pub record Kept (o : Opening) (t : SeenTable) : Type 0 where
  pub begins : Shown o.slots o.holds (opened_as o)
  pub log : List StepKind
  pub run : WordRun (opened_as o) log (erased t)
  pub seen : (place : ℕ) (s : Sight) → get_elem? t.views place ≡ some s → IsBeginning o s.seen log
  pub told : (place : ℕ) (s : Sight) → get_elem? t.views place ≡ some s → IsPrefix s.shown log
  pub notes : (m : Sight) → get_elem? t.views 0 ≡ some m → history_of m.seen ≡ notes_of log
  pub shown : Shown o.slots o.holds (erased t)

-- the law holds for each table that meets the rule, and for the run that leads there
abbrev pub OfEachKept : ((o : Opening) (t : SeenTable) → List StepKind → Type 0) → Type 0
OfEachKept Law = (o : Opening) (t : SeenTable) (kept : Kept o t) → Law o t kept.log

-- the table at the opening meets the rule; a run leads from there to the words and views as they are, and
-- these meet the rule, too
abbrev pub EndsARun : Type 0
EndsARun = OfEachKept (λ o t log. Shown o.slots o.holds (opened_as o) × WordRun (opened_as o) log (erased t)
    × Shown o.slots o.holds (erased t))

-- what a seat has seen leads from the opening to a table that met the rule, and from there the run went on to
-- the table as it is
abbrev pub SeenLeadsHere : Type 0
SeenLeadsHere = OfEachKept
    (λ o t log. (place : ℕ) (s : Sight) → get_elem? t.views place ≡ some s → (s.seen.opening ≡ o)
    × (later : List StepKind) × (mid : Table) × (s.seen.steps ++ later ≡ log) × Shown o.slots o.holds mid
    × WordRun (opened_as o) s.seen.steps mid × WordRun mid later (erased t))

-- if a caller was drained or parted on a key at any moment of the one run so far, nobody is running on
-- that key in the table as it is
abbrev pub DrainedEverAfter : Type 0
DrainedEverAfter = OfEachKept
    (λ o t log. (first : List StepKind) (mid : Table) → IsPrefix first log → WordRun (opened_as o) first mid
    → (c : ℕ) (key : Key) (phase : Phase) → IsCaller (world mid) c key phase → IsTrue (saw_drain phase)
    → NoneRunning (world (erased t)) key)

-- of two seats, one has seen at least as much of the one run as the other
abbrev pub OneRunIsSeen : Type 0
OneRunIsSeen = OfEachKept
    (λ o t log. (i j : ℕ) (a b : Sight) → get_elem? t.views i ≡ some a → get_elem? t.views j ≡ some b
    → IsPrefix a.seen.steps b.seen.steps ⊎ IsPrefix b.seen.steps a.seen.steps)

-- the Master has the first seat, and has seen the whole history. What any seat has seen is a beginning of it
abbrev pub HistoryIsSeen : Type 0
HistoryIsSeen = OfEachKept
    (λ o t log. (place : ℕ) (m s : Sight) → get_elem? t.views 0 ≡ some m → get_elem? t.views place ≡ some s
    → (history_of m.seen ≡ notes_of log) × IsPrefix (history_of s.seen) (history_of m.seen))

-- of two seats, one has seen at least as much of the one history as the other
abbrev pub OneHistory : Type 0
OneHistory = OfEachKept
    (λ o t log. (i j : ℕ) (a b : Sight) → get_elem? t.views i ≡ some a → get_elem? t.views j ≡ some b
    → IsPrefix (history_of a.seen) (history_of b.seen) ⊎ IsPrefix (history_of b.seen) (history_of a.seen))

-- if a run goes on, the notes that it had are a beginning of the notes that it has then
abbrev pub NotesStay : Type 0
NotesStay = (first more : List StepKind) → IsPrefix (notes_of first) (notes_of (first ++ more))

-- a run of the same steps from the same table ends at the same table
abbrev pub OneEnd : Type 0
OneEnd = (t u v : Table) (kinds : List StepKind) → WordRun t kinds u → WordRun t kinds v → u ≡ v
