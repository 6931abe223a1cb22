-- Runs of steps of the table, by any of its seats, and what holds over each of them.
use Rattle.std.specs.Prelude.{◌≡◌, ◌⊎◌, ℕ, ◌<◌, ◌≤◌, Bool, true, List, [], ◌∷◌, ◌++◌, map, count_by, Option, Some, None, IsTrue, IsFalse}
use Rattle.kf_core.specs.declared.key.Key.{Key}
use Rattle.kf_core.specs.declared.caller.Phase.{Phase}
use Rattle.kf_core.specs.declared.caller.Caller.{Caller}
use Rattle.kf_core.specs.declared.caller.Phase.TheVariants.{Still, Turned, Running, Hidden}
use Rattle.kf_core.specs.declared.event.Event.{Event}
use Rattle.kf_core.specs.Phases.{saw_drain, is_hiding}
use Rattle.kf_core.specs.Bare.{BareWorld, IsCaller, IsLast, is_linked, is_doomed, is_live}
use Rattle.kf_core.specs.Bare.{opening as bare_opening}
use Rattle.kf_core.specs.Safe.{Safe, NoneRunning, NoneHolding}
use Rattle.kf_core.specs.Steps.{BareRun, OnlySpent}
use Rattle.kf_words.specs.declared.view.CallerView.{CallerView}
use Rattle.kf_words.specs.Rule.{Shown}
pub use Rattle.kf_words.specs.TableSteps.{Table, master_in, callers_in, world, StepKind, WordStep, WordRun, AttendedRun, opened_table, tries, parts, births}
pub use Rattle.kf_words.specs.Made.{WasALeave, WasAHide, WasAShow, WereMade, WaitedForDrain, WaitedForHidden, WasATryUndone, WasATryUndoneThenWake, WasALeaveThenWake, WasLetInLive}

-- a new table with at least one slot, and with at most 65535 holds of a slot, meets the rule. Its world is
-- the opening world
abbrev pub OpensWell : Type 0
OpensWell = (slots limit start : ℕ) → 1 ≤ slots → limit ≤ 65535
    → Shown slots limit (opened_table limit slots start)
    × (world (opened_table limit slots start) ≡ bare_opening slots start)

-- the law holds over each run of steps of any seats, from each table that meets the rule
abbrev pub OverRuns : (ℕ → ℕ → Table → Table → Type 0) → Type 0
OverRuns Law = (slots limit : ℕ) (t u : Table) (kinds : List StepKind) → Shown slots limit t
    → WordRun t kinds u → Law slots limit t u

-- the table at the end of a run meets the rule
abbrev pub RuleKept : Type 0
RuleKept = OverRuns (λ slots limit t u. Shown slots limit u)

-- the key, if there is one
abbrev pub keys_in : Option Key → List Key
keys_in None = []
keys_in (Some key) = key ∷ []

-- the keys of the holds that these callers counted and that have no seat yet
abbrev pub keys_under_way : List CallerView → List Key
keys_under_way [] = []
keys_under_way (c ∷ cs) = keys_in c.pinning ++ keys_under_way cs

-- a caller that has just come to this key
abbrev pub newcomer : Key → Caller
newcomer key = record { key = key; phase = Still }

-- the callers that hold a slot before they have a seat: those whose holds other callers have counted
abbrev pub newcomers : Table → List Caller
newcomers t = map newcomer (keys_under_way (callers_in t.views))

-- the world of a table, in which a hold is a caller from the step that counted it
abbrev pub held_world : Table → BareWorld
held_world t = record { slots = (world t).slots; callers = (world t).callers ++ newcomers t }

-- two worlds are equal up to the numbers of their callers: their slots are the same, and for each test,
-- equally many callers pass it in both worlds
abbrev pub IsRenumbered : BareWorld → BareWorld → Type 0
IsRenumbered w w' =
    (w.slots ≡ w'.slots) × ((p : Caller → Bool) → count_by p w.callers ≡ count_by p w'.callers)

-- each step of the run is made by events: they lead from a world that is the table's before the step to one
-- that is the table's after it, both up to the numbers of callers, and the next step goes on from there
abbrev pub IsRunOfEvents : BareWorld → Table → List StepKind → Table → Type 0
IsRunOfEvents w t [] u = (u ≡ t) × IsRenumbered w (held_world t)
IsRunOfEvents w t (kind ∷ kinds) u = IsRenumbered w (held_world t) × (between : Table)
    × WordStep t kind between × (events : List Event) × (next : BareWorld) × BareRun w events next
    × IsRunOfEvents next between kinds u

-- each attended run is a run of steps. From every world that is the first table's up to the numbers of
-- callers, it is also a run of events
abbrev pub RunIsRun : Type 0
RunIsRun = (slots limit : ℕ) (t u : Table) (kinds : List StepKind) → Shown slots limit t
    → AttendedRun t kinds u
    → WordRun t kinds u × ((w : BareWorld) → IsRenumbered w (held_world t) → IsRunOfEvents w t kinds u)

-- while each hold that was counted has its seat, the world is the one that the views name
abbrev pub HeldIsNamed : Type 0
HeldIsNamed = (t : Table) → keys_under_way (callers_in t.views) ≡ [] → held_world t ≡ world t

-- the world at the end of a run is safe
abbrev pub RunIsSafe : Type 0
RunIsSafe = OverRuns (λ slots limit t u. Safe (world u))

-- if a caller is drained or parted on a key at the start of a run, nobody is running on that key at its
-- end
abbrev pub DrainedForGood : Type 0
DrainedForGood = OverRuns (λ slots limit t u. (c : ℕ) (key : Key) (phase : Phase)
    → IsCaller (world t) c key phase → IsTrue (saw_drain phase) → NoneRunning (world u) key)

-- if the next step is a try by a caller of this key, that caller is refused
abbrev pub TryIsRefused : Table → Key → Type 0
TryIsRefused u key = (j : ℕ) (phase : Phase) (v : Table)
    → IsCaller (world u) j key phase → WordStep u (tries j) v → IsCaller (world v) j key Turned

-- a key that is linked and doomed at the start of a run is not live at its end, and a try there is refused
abbrev pub MarkedKeepsOut : Type 0
MarkedKeepsOut = OverRuns (λ slots limit t u. (key : Key) → IsTrue (is_linked (world t) key)
    → IsTrue (is_doomed (world t) key) → IsFalse (is_live (world u) key) × TryIsRefused u key)

-- if a caller hides a key at the end of a run, a try there is refused, and if that caller is Hidden, nobody
-- is running there
abbrev pub HiddenKeepsOut : Type 0
HiddenKeepsOut = OverRuns (λ slots limit t u. (c : ℕ) (key : Key) (phase : Phase)
    → IsCaller (world u) c key phase → IsTrue (is_hiding phase) → TryIsRefused u key
    × (phase ≡ Hidden → NoneRunning (world u) key))

-- if a key's slot has a later generation at the start of a run, only spent callers are on that key at the end
-- of the run
abbrev pub PassedForGood : Type 0
PassedForGood = OverRuns (λ slots limit t u. (key : Key) (generation : ℕ)
    → IsLast (world t) key.slot generation → key.generation < generation → NoneHolding (world u) key)

-- a birth after a run finds only spent callers on its slot
abbrev pub BornUnheld : Type 0
BornUnheld =
    OverRuns (λ slots limit t u. (slot : ℕ) (v : Table) → WordStep u (births slot) v
    → OnlySpent (world u) slot)

-- a try after a run lets a caller run only if its key is live
abbrev pub LetInLive : Type 0
LetInLive = OverRuns (λ slots limit t u. (j : ℕ) (key : Key) (v : Table)
    → WordStep u (tries j) v → IsCaller (world v) j key Running → is_live (world u) key ≡ true)

-- one step of the run was a try of this caller, which found its key live and let the caller run
pub record WasLetIn (t : Table) (kinds : List StepKind) (u : Table) (c : ℕ) (key : Key) : Type 0 where
  pub before : List StepKind
  pub later : List StepKind
  pub found : Table
  pub left : Table
  pub run_before : WordRun t before found
  pub try : WordStep found (tries c) left
  pub live : is_live (world found) key ≡ true
  pub runs : IsCaller (world left) c key Running
  pub run_later : WordRun left later u
  pub all : kinds ≡ before ++ tries c ∷ later

-- a caller that runs at the end of a run ran at its start, or was let in while its key was live
abbrev pub TakenLive : Type 0
TakenLive = (slots limit : ℕ) (t u : Table) (kinds : List StepKind) → Shown slots limit t → WordRun t kinds u
    → (c : ℕ) (key : Key) → IsCaller (world u) c key Running → IsCaller (world t) c key Running
    ⊎ WasLetIn t kinds u c key
