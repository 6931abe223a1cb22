-- A run with every kind of step on words: the whole life of a node, and the birth of the next node in its
-- slot.
use Rattle.std.specs.Prelude.{ℕ, Bool, true, false, List, [], ◌∷◌, map, Option, None, Some}
use Rattle.kf_core.specs.declared.command.Command.TheVariants.{Doom}
use Rattle.kf_core.specs.declared.caller.Phase.{Phase}
use Rattle.kf_core.specs.declared.caller.Phase.TheVariants.{Still, Spent}
use Rattle.kf_core.specs.declared.slot.NodeFlags.{NodeFlags}
use Rattle.kf_words.specs.declared.view.CallerView.{CallerView}
use Rattle.kf_words.specs.declared.view.MasterView.{MasterView}
use Rattle.kf_words.specs.declared.view.Load.{Load}
use Rattle.kf_words.specs.declared.view.View.TheVariants as seat
use Rattle.kf_words.specs.declared.note.Note.TheVariants.{Did}
use Rattle.kf_words.specs.TableSteps.{Table, StepKind, births, breaks, hides, leaves, loads_hold, looks, looks_hidden, looks_over, marks_node, parts, pins_hold, releases, sees_holds, counts_hold, shares, restores, shows, sleeps, awakes, loads_sleepers, splits, stores_fresh, takes_bias, tries, undoes, unlinks, unpins_hold, notes, reports, answers, compares, sees_holds_at, counts_hold_at, hands_on, stores_node, reads_node}
use Rattle.kf_words.specs.declared.view.View.{View}
use Rattle.kf_words.specs.declared.sight.Opening.{Opening}
use Rattle.kf_words.specs.declared.sight.Sight.{Sight}
use Rattle.kf_words.specs.Steps.{spent_hold}
use Rattle.kf_words.specs.Runs.{AttendedRun}
use Rattle.kf_words.specs.History.{Kept, opened_as}

-- the marks of a node, by whether it is activated and whether it is doomed
abbrev pub with_marks_of : Bool → Bool → NodeFlags
with_marks_of activated doomed = record { activated = activated; doomed = doomed }

-- the view of a caller with the first key of slot 1
abbrev pub caller_at : Phase → ℕ → ℕ → ℕ → Bool → CallerView
caller_at phase steps tried found due = record {
  key = record { slot = 1; generation = 1 };
  phase = phase;
  steps = steps;
  tries = tried;
  found = found;
  undo_due = due;
  pinning = None;
}

-- the view of a caller with the next key there
abbrev pub next_caller : Phase → ℕ → ℕ → ℕ → Bool → CallerView
next_caller phase steps tried found due =
    record (caller_at phase steps tried found due) { key = record { slot = 1; generation = 2 } }

-- the caller's view after it counted one more hold of its key, which has no seat yet
abbrev pub with_one_more : CallerView → CallerView
with_one_more c = record c { pinning = Some c.key }

-- the view of the Master of two slots, each with at most three holds, by what it knows of slot 1
abbrev pub master_at : ℕ → Option NodeFlags → Option ℕ → Option ℕ → List Load → List Load → Option Load
    → MasterView
master_at last marks pinning fresh loads at_birth looked = record {
  limit = 3;
  slots = record { generation = 1; marks = Some (with_marks_of true false) }
      ∷ record { generation = last; marks = marks } ∷ [];
  pinning = pinning;
  fresh = fresh;
  loads = loads;
  at_birth = at_birth;
  looked = looked;
}

-- the table, by the three words of slot 1: active word, hold word and count of sleepers
abbrev pub table_with : ℕ → ℕ → ℕ → MasterView → List CallerView → Table
table_with active hold sleepers m cs = record {
  words = 0 ∷ 6442450944 ∷ 0 ∷ 0 ∷ 0 ∷ 0 ∷ 0 ∷ 0 ∷ active ∷ hold ∷ sleepers ∷ 0 ∷ 0 ∷ 0 ∷ 0 ∷ 0 ∷ [];
  homes = [];
  views = seat.Master m ∷ map seat.Caller cs;
}

-- the table while nobody sleeps
abbrev pub table_at : ℕ → ℕ → MasterView → List CallerView → Table
table_at active hold m cs = table_with active hold 0 m cs

-- caller 0 calls into the node; caller 1 hides the node, shows it, and removes it. After the node is taken
-- out, caller 0 makes another hold of its key, once there is room. Then a next node is born there. Caller 3
-- makes a hold of that node by its key, and meets the Master
abbrev pub word_life : List StepKind
word_life = loads_hold 1 ∷ stores_fresh 1 ∷ births 1 ∷ takes_bias 1 ∷ loads_hold 1 ∷ pins_hold 1
    ∷ splits 1 ∷ loads_hold 1 ∷ pins_hold 1 ∷ splits 1 ∷ tries 0 ∷ hides 1
    ∷ looks_hidden 1 ∷ leaves 0 ∷ looks_hidden 1 ∷ tries 0 ∷ undoes 0 ∷ shows 1 ∷ tries 0
    ∷ notes (Did (Doom (record { slot = 1; generation = 1 })))
    ∷ marks_node 1 ∷ tries 1 ∷ undoes 1 ∷ sleeps 1 1 ∷ breaks 0 ∷ loads_sleepers 1 0 ∷ awakes 1 1 ∷ looks 1
    ∷ restores 0 ∷ parts 1 ∷ looks_over 1 ∷ leaves 0 ∷ looks_over 1 ∷ unlinks 1 ∷ parts 1 ∷ sees_holds 0
    ∷ releases 1
    ∷ counts_hold 0 ∷ shares 0 ∷ releases 2 ∷ releases 0
    ∷ loads_hold 1 ∷ stores_fresh 1 ∷ stores_node 1 0 0 ∷ births 1 ∷ loads_hold 1 ∷ pins_hold 1
    ∷ unpins_hold 1 ∷ loads_hold 1 ∷ pins_hold 1 ∷ splits 1 ∷ sees_holds_at 1 3 ∷ counts_hold_at 1 3
    ∷ hands_on 3
    ∷ reads_node 1 0 3 ∷ reports 3 ∷ compares ∷ answers ∷ []

-- the opening of the table in this run
abbrev pub life_opening : Opening
life_opening = record { holds = 3; slots = 2; start = 0 }

-- the table after all these steps
abbrev pub lived : Table
lived = table_at 4294967296 10737418242
    (master_at 2 (Some (with_marks_of false false)) (None) (None) ([])
    (record { slot = 1; word = 4294967296 } ∷ []) (None))
    ((caller_at Spent 11 3 4294967297 false) ∷ (caller_at Spent 10 1 4294967298 false)
    ∷ (caller_at Spent 1 0 4294967298 false) ∷ (next_caller Still 3 0 0 false)
    ∷ (next_caller Still 0 0 0 false) ∷ spent_hold (record { slot = 1; generation = 2 })
    ∷ spent_hold (record { slot = 0; generation = 1 }) ∷ [])

-- there is an attended run of all these steps from the opening of two slots
abbrev pub WordLife : Type 0
WordLife = AttendedRun (opened_as life_opening) word_life lived

-- what a seat with this view knows if it has seen the whole run
abbrev pub saw_life : View → Sight
saw_life v =
    record { view = v; seen = record { opening = life_opening; steps = word_life }; shown = [] }

-- the table at the end of the run meets the rule if each of its seats has seen the whole run
abbrev pub LifeIsKept : Type 0
LifeIsKept =
    Kept life_opening (record { words = lived.words; homes = lived.homes; views = map saw_life lived.views })
