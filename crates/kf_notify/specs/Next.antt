-- What a step of a seat says: that it was the next step of the one run, and to which table the run had led.
use Rattle.std.specs.Prelude.{◌≡◌, ℕ, zero, suc, ◌+◌, List, [], ◌∷◌, ◌++◌}
use Rattle.atomic_table.specs.Table.{Step}
use Rattle.kf_notify.specs.declared.sight.NumbersSeen.{NumbersSeen}
use Rattle.kf_notify.specs.declared.sight.NumberSight.{NumberSight}
use Rattle.kf_notify.specs.Rule.{Table, NumbersShown, IsSeated, number_at}
use Rattle.kf_notify.specs.Steps.{Sighted, plain, Loads, Raises}
use Rattle.kf_notify.specs.TableSteps.{NumberStepKind, loads, raises, NumberStep, NumberRun}
use Rattle.kf_notify.specs.History.{opened_as}

-- what is seen after the step is the run that was seen before it, then the steps between, and then this step
abbrev pub SawNext : NumbersSeen → List NumberStepKind → NumberStepKind → NumbersSeen → Type 0
SawNext before between kind after =
    after ≡ record { opening = before.opening; steps = (before.steps ++ between) ++ kind ∷ [] }

-- the run that was seen, and then these steps, lead to this table
abbrev pub LeadsTo : NumbersSeen → List NumberStepKind → Table → Type 0
LeadsTo seen between t =
    NumberRun seen.opening.slots (opened_as seen.opening) (seen.steps ++ between) t

-- the seat's step was the next one of the one run. The steps between had led from all that the seat had seen
-- to the table that the step found. This table met the rule, and the seat had its old view in it. In the
-- table that the step left, the seat has its new view. It has now seen the run up to this step
pub record WasMade (kind : ℕ → NumberStepKind) (before after : NumberSight) : Type 0 where
  pub between : List NumberStepKind
  pub found : Table
  pub left : Table
  pub seat : ℕ
  pub run : LeadsTo before.seen between found
  pub shown : NumbersShown before.seen.opening.slots before.seen.opening.start found
  pub step : NumberStep before.seen.opening.slots found (kind seat) left
  pub was : IsSeated found seat before.view
  pub is : IsSeated left seat after.view
  pub seen : SawNext before.seen between (kind seat) after.seen

-- as in `WasMade`, this seat loaded the number of this slot, between these two sights of it, and found this
-- number there
abbrev pub WasLoad : ℕ → ℕ → NumberSight → NumberSight → Type 0
WasLoad slot number before after = (made : WasMade (λ seat. loads seat slot) before after)
    × (number_at made.found slot ≡ number)

-- as in `WasMade`, this seat raised the number of this slot to this one, between these two sights of it
abbrev pub WasRaise : ℕ → ℕ → NumberSight → NumberSight → Type 0
WasRaise slot number = WasMade (λ seat. raises seat slot number)

-- this seat loaded the number of this slot, and then raised it to this number, which is one more than the
-- load found
pub record WasNotify (slot number : ℕ) (before after : NumberSight) : Type 0 where
  pub found : ℕ
  pub loaded : NumberSight
  pub load : WasLoad slot found before loaded
  pub one_more : number ≡ found + 1
  pub raise : WasRaise slot number loaded after

-- this seat made this many loads of this slot one after another, and no other step between them. Each load
-- found this number
abbrev pub WereLoads : ℕ → ℕ → ℕ → NumberSight → NumberSight → Type 0
WereLoads slot number zero before after = after ≡ before
WereLoads slot number (suc count) before after =
    (between : NumberSight) × WereLoads slot number count before between × WasLoad slot number between after

-- all that a wait past the number `seen` does: any number of loads of this slot that found `seen`, and a last
-- load, which found this number
pub record OnlyLoads (slot seen number : ℕ) (before after : NumberSight) : Type 0 where
  pub count : ℕ
  pub last : NumberSight
  pub others : WereLoads slot seen count before last
  pub load : WasLoad slot number last after

-- what a load says: the same as in `Loads`, and that it was the next step of the one run
abbrev pub MakesLoad : Step (Unit {0}) → Sighted → ℕ → Sighted → Type 0
MakesLoad st me found me' = Loads st (plain me) found (plain me') × WasLoad st.word found me.0 me'.0

-- what a raise says: the same as in `Raises`, and that it was the next step of the one run
abbrev pub MakesRaise : Step (Unit {0}) → Sighted → ℕ → Sighted → Type 0
MakesRaise st me found me' =
    Raises st (plain me) found (plain me') × WasRaise st.word st.first me.0 me'.0
