-- The one run: what the rule keeps of it between any two steps.
use Rattle.std.specs.Prelude.{◌≡◌, ◌⊎◌, ℕ, ◌<◌, ◌≤◌, max, List, [], ◌++◌, map, replicate, Contains}
use mathlib.Core.Option.{some}
use mathlib.Core.List.{IsPrefix}
use lib.ListN.{get_elem?}
use Rattle.atomic_table.specs.Table.{State, opening}
use Rattle.kf_notify.specs.declared.sight.NumberOpening.{NumberOpening}
use Rattle.kf_notify.specs.declared.sight.NumbersSeen.{NumbersSeen}
use Rattle.kf_notify.specs.declared.sight.NumberSight.{NumberSight}
use Rattle.kf_notify.specs.Rule.{Table, NumbersShown, number_at, opened}
use Rattle.kf_notify.specs.Steps.{doubled}
use Rattle.kf_notify.specs.TableSteps.{NumberStepKind, raises, NumberRun, opened_table}

-- the words, and what each seat knows
abbrev pub SeenTable : Type 0
SeenTable = State (Unit {0}) NumberSight

-- the table without what its seats have seen
abbrev pub erased : SeenTable → Table
erased t = record { words = t.words; homes = t.homes; views = map (λ (s : NumberSight). s.view) t.views }

-- the table at this opening
abbrev pub opened_as : NumberOpening → Table
opened_as o = opened_table o.slots o.start

-- what the first seat knows at the opening: no step has been made
abbrev pub first_sight : NumberOpening → NumberSight
first_sight o = record { view = opened o.start; seen = record { opening = o; steps = [] } }

-- what a new seat knows: the same as the seat that it was made from, and it has seen as much of the run; but
-- it has made no number and no step
abbrev pub given : NumberSight → NumberSight
given s = record { view = doubled s.view; seen = s.seen }

-- what was seen is a beginning of the run of these steps, from this opening
abbrev pub IsBeginning : NumberOpening → NumbersSeen → List NumberStepKind → Type 0
IsBeginning o seen log = (seen.opening ≡ o) × IsPrefix seen.steps log

-- one run leads here from the opening, each seat has seen a beginning of it, and the words show the views of
-- all seats
pub record Kept (o : NumberOpening) (t : SeenTable) : Type 0 where
  pub log : List NumberStepKind
  pub run : NumberRun o.slots (opened_as o) log (erased t)
  pub seen : (place : ℕ) (s : NumberSight) → get_elem? t.views place ≡ some s → IsBeginning o s.seen log
  pub shown : NumbersShown o.slots o.start (erased t)

-- this holds of each table that meets the rule, its opening, and the run that leads to it
abbrev pub OfEachKept : ((o : NumberOpening) (t : SeenTable) → List NumberStepKind → Type 0) → Type 0
OfEachKept Law = (o : NumberOpening) (t : SeenTable) (kept : Kept o t) → Law o t kept.log

-- the rule holds at each opening
abbrev pub OpensKept : Type 0
OpensKept = (o : NumberOpening) → Kept o (opening (replicate (max o.slots 1) o.start) [] (first_sight o))

-- a run from the opening leads to the words and views of the table, and the words show the views of all seats
abbrev pub EndsARun : Type 0
EndsARun = OfEachKept (λ o t log. NumberRun o.slots (opened_as o) log (erased t)
    × NumbersShown o.slots o.start (erased t))

-- what a seat has seen leads from the opening to a table that met the rule. From there the run went on to the
-- table as it is, and no number has gone back since
abbrev pub SeenLeadsHere : Type 0
SeenLeadsHere = OfEachKept
    (λ o t log. (place : ℕ) (s : NumberSight) → get_elem? t.views place ≡ some s → (s.seen.opening ≡ o)
    × (later : List NumberStepKind) × (mid : Table) × (s.seen.steps ++ later ≡ log)
    × NumbersShown o.slots o.start mid × NumberRun o.slots (opened_as o) s.seen.steps mid
    × NumberRun o.slots mid later (erased t)
    × ((slot : ℕ) → number_at mid slot ≤ number_at (erased t) slot))

-- if the one run so far has raised a slot's number to some number, at any moment, the slot's number is not
-- below that number now
abbrev pub RaisedEverAfter : Type 0
RaisedEverAfter = OfEachKept (λ o t log. (seat slot number : ℕ) → Contains log (raises seat slot number)
    → number ≤ number_at (erased t) slot)

-- a slot's number is the first one, or the one run has raised it to exactly this number
abbrev pub FirstOrRaised : Type 0
FirstOrRaised = OfEachKept (λ o t log. (slot : ℕ) → slot < o.slots → (number_at (erased t) slot ≡ o.start)
    ⊎ ((seat : ℕ) × Contains log (raises seat slot (number_at (erased t) slot))))

-- what one of two seats has seen of the one run is a beginning of what the other has seen
abbrev pub OneRunIsSeen : Type 0
OneRunIsSeen = OfEachKept
    (λ o t log. (i j : ℕ) (a b : NumberSight) → get_elem? t.views i ≡ some a → get_elem? t.views j ≡ some b
    → IsPrefix a.seen.steps b.seen.steps ⊎ IsPrefix b.seen.steps a.seen.steps)

-- two runs of the same steps from the same table end at the same table
abbrev pub OneEnd : Type 0
OneEnd = (slots : ℕ) (t u v : Table) (kinds : List NumberStepKind) → NumberRun slots t kinds u
    → NumberRun slots t kinds v → u ≡ v
