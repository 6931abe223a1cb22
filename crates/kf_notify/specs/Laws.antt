-- What the numbers say at every moment, and over every run of steps.
use Rattle.std.specs.Prelude.{ℕ, ◌≤◌, ◌<◌, List, [], ◌∷◌, ◌++◌, Contains}
use Rattle.kf_notify.specs.declared.view.NumberView.{NumberView}
use Rattle.kf_notify.specs.Rule.{Table, NumbersShown, IsSeated, number_at}
pub use Rattle.kf_notify.specs.TableSteps.{NumberStepKind, loads, raises, NumberStep, NumberRun, opened_table}

-- a slot's number is never below one that any seat has seen or made there
abbrev pub NeverBelow : Type 0
NeverBelow = (slots start : ℕ) (t : Table) → NumbersShown slots start t
    → (seat : ℕ) (v : NumberView) → IsSeated t seat v → v.known ≤ number_at t v.slot

-- no slot's number is below the first
abbrev pub NeverBelowTheFirst : Type 0
NeverBelowTheFirst = (slots start : ℕ) (t : Table) → NumbersShown slots start t
    → (slot : ℕ) → slot < slots → start ≤ number_at t slot

-- the table meets the rule at its opening
abbrev pub OpensWell : Type 0
OpensWell = (slots start : ℕ) → NumbersShown slots start (opened_table slots start)

-- each run of steps keeps the rule
abbrev pub RuleKept : Type 0
RuleKept = (slots start : ℕ) (t : Table) (kinds : List NumberStepKind) (t' : Table)
    → NumbersShown slots start t → NumberRun slots t kinds t' → NumbersShown slots start t'

-- no slot's number is lower after a run of steps than before it
abbrev pub NeverGoesBack : Type 0
NeverGoesBack = (slots start : ℕ) (t : Table) (kinds : List NumberStepKind) (t' : Table)
    → NumbersShown slots start t → NumberRun slots t kinds t'
    → (slot : ℕ) → number_at t slot ≤ number_at t' slot

-- if a slot's number reaches or passes a number in a run, then the run has a raise to that number on that
-- slot
abbrev pub NoneSkipped : Type 0
NoneSkipped = (slots start : ℕ) (t : Table) (kinds : List NumberStepKind) (t' : Table)
    → NumbersShown slots start t → NumberRun slots t kinds t' → (slot number : ℕ)
    → number_at t slot < number → number ≤ number_at t' slot
    → (seat : ℕ) × Contains kinds (raises seat slot number)

-- once a slot's number was raised to some number, it is never below that number again
abbrev pub StaysRaised : Type 0
StaysRaised = (slots start : ℕ) (t : Table) (seat slot number : ℕ) (kinds : List NumberStepKind) (t' : Table)
    → NumbersShown slots start t → NumberRun slots t (raises seat slot number ∷ kinds) t'
    → number ≤ number_at t' slot

-- a notify that begins after another one of the same slot has ended makes a greater number, whatever all
-- seats do between the two, and between its load and its raise
abbrev pub LaterIsGreater : Type 0
LaterIsGreater = (slots start : ℕ) (t : Table) (one other slot number later : ℕ)
    (kinds more : List NumberStepKind) (t' : Table) → NumbersShown slots start t
    → NumberRun slots t (raises one slot number
    ∷ (kinds ++ loads other slot ∷ (more ++ raises other slot later ∷ []))) t'
    → number < later
