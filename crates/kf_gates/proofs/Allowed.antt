-- The steps of each seat are allowed, in the form that the table asks for.
use Rattle.std.proofs.Common.{◌≡◌, ◌≢◌, ℕ, ◌+◌, ◌*◌, ◌/◌, ◌%◌, ◌<◌, true, false, set, get_or, refl, sym, ap, ◌∙◌, subst, arith, eq-eqb, ne_eqb}
use mathlib.Core.Option.{some, none}
use lib.ListN.{get_elem?}
use Rattle.atomic_table.specs.Table.{step, Allows, Splits, keeps}
use Rattle.kf_gates.specs.declared.view.GatePlan.{GatePlan}
use Rattle.kf_gates.specs.declared.view.GateView.{GateView}
use Rattle.kf_gates.specs.declared.view.GateView.TheVariants.{Keeps, Outside, Looked, Full, Left, Counted, OneTooMany, Knocking, Inside, Turned, Broken, Restored}
use Rattle.kf_gates.specs.Rule.{Table, Kept, IsPass, gate_word, due_from, looks_of}
use Rattle.kf_gates.specs.Board.{HasPlan}
use Rattle.kf_gates.specs.Laws.{Has, IsOver, InsideOnLast, ClosedIsEmpty, ShutLetsNobodyIn, OpenLetsIn}
use Rattle.kf_gates.specs.Runs.{CountsIn, MayUncount, one_more, one_less}
use Rattle.kf_gates.specs.Steps.{Seated, after_count, looked, next_plan, pass_made, scanned, scanned_plan, shut_plan, stepped_off, uncounted, MakesKnock, MakesLook, MakesLookBack, MakesLeave, MakesBreak, MakesRestore, MakesCount, MakesUncount, MakesShut, MakesScan, MakesOpening, MakesSleepCount}
use Rattle.kf_gates.proofs.Keeping.{half, odd_of, even_of, knock_kept, look_kept, look_back_kept, leave_kept, break_kept, restore_kept, count_kept, uncount_kept, pass_kept, shut_kept, scan_kept, open_kept, sleep_kept, nobody_inside}

abbrev no_plan : GatePlan
no_plan = record { number = 0; shut = true; seen = 0; found = 0; spare = false }

abbrev plan_of : GateView → GatePlan
plan_of (Keeps p n) = p
plan_of Outside = no_plan
plan_of (Looked f) = no_plan
plan_of (Full f) = no_plan
plan_of (Left f) = no_plan
plan_of Counted = no_plan
plan_of (OneTooMany f) = no_plan
plan_of (Knocking k) = no_plan
plan_of (Inside k n) = no_plan
plan_of (Turned k f) = no_plan
plan_of (Broken k n) = no_plan
plan_of (Restored k n) = no_plan

abbrev lane_of : GateView → ℕ
lane_of (Keeps p n) = 0
lane_of Outside = 0
lane_of (Looked f) = 0
lane_of (Full f) = 0
lane_of (Left f) = 0
lane_of Counted = 0
lane_of (OneTooMany f) = 0
lane_of (Knocking k) = k
lane_of (Inside k n) = k
lane_of (Turned k f) = k
lane_of (Broken k n) = k
lane_of (Restored k n) = k

abbrev number_of : GateView → ℕ
number_of (Keeps p n) = 0
number_of Outside = 0
number_of (Looked f) = 0
number_of (Full f) = 0
number_of (Left f) = 0
number_of Counted = 0
number_of (OneTooMany f) = 0
number_of (Knocking k) = 0
number_of (Inside k n) = n
number_of (Turned k f) = 0
number_of (Broken k n) = n
number_of (Restored k n) = 0

-- the seat has the view that it is known to have
seated_as : (t : Table) (id : ℕ) (x v : GateView) → x ≡ v → get_elem? t.views id ≡ some x → Has t id v
seated_as t id x v is at = subst (λ (y : GateView). get_elem? t.views id ≡ some y) is at

-- a keeper's seat has this plan, and has made this many looks
pub keeps_on : (v : GateView) (p : GatePlan) (n : ℕ) → v ≡ Keeps p n → HasPlan p v × (looks_of v ≡ n)
keeps_on v p n e = (e ∙ ap (λ (v' : GateView). Keeps p (looks_of v')) (sym e), ap looks_of e)

pub keeps_as : (v : GateView) (p q : GatePlan) (n : ℕ) → v ≡ Keeps p n → p ≡ q → HasPlan q v
keeps_as v p q n e same = (keeps_on v q n (e ∙ ap (λ (x : GatePlan). Keeps x n) same)).0

pub knock_allowed : (lanes slots id : ℕ) (me : Seated) (k : ℕ) → IsPass me.0 → k < lanes
    → Allows (Kept lanes) slots id me (8 * k + 8) one_more (MakesKnock (step slots (8 * k + 8) 1 0 none) me)
knock_allowed lanes slots id me k pass inside t r _ at small =
    (Knocking k, keeps, tt, knock_kept lanes t r id k me.0 at pass inside, λ lane is. ap Knocking (omega arith))

pub look_allowed : (lanes slots id : ℕ) (me : Seated) (k : ℕ) → me.0 ≡ Knocking k → Allows (Kept lanes) slots id me 0 (λ n. n) (MakesLook (step slots 0 0 0 none) me)
look_allowed lanes slots id me k knocking t r _ at small =
    let x : ℕ = get_or t.words 0 0 in
    (looked x k, keeps, tt, look_kept lanes t r id k (seated_as t id me.0 (Knocking k) knocking at), λ lane is. ap (looked x) (ap lane_of (sym knocking ∙ is)))

-- a caller that has stepped off is a pass
pub off_pass : (k : ℕ) (v : GateView) → CountsIn k v → IsPass (stepped_off v)
off_pass k (Keeps p n) counts = absurd counts
off_pass k Outside counts = absurd counts
off_pass k (Looked f) counts = absurd counts
off_pass k (Full f) counts = absurd counts
off_pass k (Left f) counts = absurd counts
off_pass k Counted counts = absurd counts
off_pass k (OneTooMany f) counts = absurd counts
off_pass k (Knocking j) counts = absurd counts
off_pass k (Inside j n) counts = tt
off_pass k (Turned j f) counts = tt
off_pass k (Broken j n) counts = absurd counts
off_pass k (Restored j n) counts = tt

pub look_back_allowed : (lanes slots id : ℕ) (me : Seated) → IsPass me.0
    → Allows (Kept lanes) slots id me 0 (λ n. n) (MakesLookBack (step slots 0 0 0 none) me)
look_back_allowed lanes slots id me pass t r _ at small = (Left (get_or t.words 0 0), keeps, tt, look_back_kept lanes t r id me.0 at pass, refl)

pub leave_allowed : (lanes slots id : ℕ) (me : Seated) (k : ℕ) → CountsIn k me.0 → k < lanes
    → Allows (Kept lanes) slots id me (8 * k + 8) one_less (MakesLeave (step slots (8 * k + 8) 1 0 none) me)
leave_allowed lanes slots id me k counts inside t r _ at small = (stepped_off me.0, keeps, tt, leave_kept lanes t r id k me.0 at counts inside, refl)

pub break_allowed : (lanes slots id : ℕ) (me : Seated) (k : ℕ) → (n : ℕ) × (me.0 ≡ Inside k n) → k < lanes
    → Allows (Kept lanes) slots id me (8 * k + 8) one_less (MakesBreak (step slots (8 * k + 8) 1 0 none) me)
break_allowed lanes slots id me k here inside t r _ at small = (
  Broken k here.0,
  keeps,
  tt,
  break_kept lanes t r id k here.0 (seated_as t id me.0 (Inside k here.0) here.1 at) inside,
  λ lane number is. let same = sym here.1 ∙ is in (λ i. Broken (lane_of (same i)) (number_of (same i))),
)

pub restore_allowed : (lanes slots id : ℕ) (me : Seated) (k : ℕ) → (n : ℕ) × (me.0 ≡ Broken k n) → k < lanes
    → Allows (Kept lanes) slots id me (8 * k + 8) one_more (MakesRestore (step slots (8 * k + 8) 1 0 none) me)
restore_allowed lanes slots id me k here inside t r _ at small = (
  Restored k here.0,
  keeps,
  tt,
  restore_kept lanes t r id k here.0 (seated_as t id me.0 (Broken k here.0) here.1 at) inside,
  λ lane number is. let same = sym here.1 ∙ is in (λ i. Restored (lane_of (same i)) (number_of (same i))),
)

pub count_allowed : (lanes slots id : ℕ) (me : Seated) → IsPass me.0 → Allows (Kept lanes) slots id me 2 one_more (MakesCount (step slots 2 1 0 none) me)
count_allowed lanes slots id me pass t r _ at small =
    (after_count (get_or t.words 2 0), keeps, tt, count_kept lanes t r id me.0 at pass, refl)

pub uncount_allowed : (lanes slots id : ℕ) (me : Seated) → MayUncount me.0 → Allows (Kept lanes) slots id me 2 one_less (MakesUncount (step slots 2 1 0 none) me)
uncount_allowed lanes slots id me may t r _ at small = (uncounted me.0, keeps, tt, uncount_kept lanes t r id me.0 at may, refl)

pub shut_allowed : (lanes slots id : ℕ) (me : Seated) (p : GatePlan) (n word : ℕ) → me.0 ≡ Keeps p n → word ≡ gate_word p.number true
    → Allows (Kept lanes) slots id me 0 (λ _. word) (λ _. MakesShut (step slots 0 word 0 none) me word)
shut_allowed lanes slots id me p n word plans is_word t r _ at small = (
  Keeps (shut_plan p) n,
  keeps,
  tt,
  subst (λ (z : ℕ). Kept lanes (record { words = set t.words 0 z; homes = t.homes; views = set t.views id (Keeps (shut_plan p) n) })) (sym is_word)
      (shut_kept lanes t r id p n (seated_as t id me.0 (Keeps p n) plans at)),
  λ x m is. ap (λ (v : GateView). Keeps (shut_plan (plan_of v)) (looks_of v)) (sym plans ∙ is),
)

pub scan_allowed : (lanes slots id : ℕ) (me : Seated) (p : GatePlan) (n : ℕ) → me.0 ≡ Keeps p n → p.shut ≡ true → p.seen < lanes
    → Allows (Kept lanes) slots id me (8 * p.seen + 8) (λ w. w) (MakesScan (step slots (8 * p.seen + 8) 0 0 none) me)
scan_allowed lanes slots id me p n plans shut inside t r _ at small =
    let x : ℕ = get_or t.words (8 * p.seen + 8) 0 in
    (scanned x p n, keeps, tt, scan_kept lanes t r id p n (seated_as t id me.0 (Keeps p n) plans at) shut inside, λ q m is. ap (λ (v : GateView). scanned x (plan_of v) (looks_of v)) (sym plans ∙ is))

-- the plan after a look at an empty lane, and after a look at a lane that is not empty
pub scanned_empty : (x : ℕ) (p : GatePlan) → x ≡ 0 → scanned_plan x p ≡ record p { seen = p.seen + 1; found = x }
scanned_empty x p e = rw (eq-eqb x 0 e) refl

pub scanned_used : (x : ℕ) (p : GatePlan) → x ≢ 0 → scanned_plan x p ≡ record p { found = x }
scanned_used x p e = rw (ne_eqb x 0 e) refl

pub open_allowed : (lanes slots id : ℕ) (me : Seated) (p : GatePlan) (n word : ℕ) → me.0 ≡ Keeps p n → IsOver lanes p → word ≡ gate_word (p.number + 1) false
    → Allows (Kept lanes) slots id me 0 (λ _. word) (λ _. MakesOpening (step slots 0 word 0 none) me word)
open_allowed lanes slots id me p n word plans over is_word t r _ at small = (
  Keeps (next_plan p) n,
  keeps,
  tt,
  subst (λ (z : ℕ). Kept lanes (record { words = set t.words 0 z; homes = t.homes; views = set t.views id (Keeps (next_plan p) n) })) (sym is_word)
      (open_kept lanes t r id p n (seated_as t id me.0 (Keeps p n) plans at) over),
  λ x m is. ap (λ (v : GateView). Keeps (next_plan (plan_of v)) (looks_of v)) (sym plans ∙ is),
)

pub sleep_allowed : (lanes slots id : ℕ) (me : Seated) (k : ℕ) (f : ℕ → ℕ) → (p : GatePlan) × HasPlan p me.0
    → Allows (Kept lanes) slots id me 1 f (MakesSleepCount (step slots 1 k 0 none) me)
sleep_allowed lanes slots id me k f plans t r _ at small =
    let n : ℕ = looks_of me.0 in (Keeps plans.0 n, keeps, tt, sleep_kept lanes t r id plans.0 n f (seated_as t id me.0 (Keeps plans.0 n) plans.1 at), sym plans.1)

pub pass_allowed : (lanes id : ℕ) (v : GateView) → due_from v ≡ 1 → Splits (Kept lanes) id v (pass_made v) Outside
pass_allowed lanes id v due t r at = pass_kept lanes t r id v at due

pub inside_on_last : InsideOnLast
inside_on_last lanes t r seat lane number e = half r.plan.shut r.plan.number (get_or t.words 0 0) r.word ∙ sym (r.seats seat (Inside lane number) e).1

pub closed_is_empty : ClosedIsEmpty
closed_is_empty lanes t r p n keeper over seat lane number inside = nobody_inside lanes t r 0 p n keeper over seat lane number inside

pub shut_lets_nobody_in : ShutLetsNobodyIn
shut_lets_nobody_in lanes t r p n keeper shut lane =
    let x : ℕ = get_or t.words 0 0 in
    let mine : r.plan.shut ≡ true = sym (ap (λ (q : GatePlan). q.shut) (r.seats 0 (Keeps p n) keeper).0) ∙ shut in
    let odd : x % 2 ≡ 1 = odd_of r.plan.shut r.plan.number x r.word mine in
    rw (ne_eqb (x % 2) 0 (λ e. omega arith)) refl

pub open_lets_in : OpenLetsIn
open_lets_in lanes t r p n keeper open' lane =
    let x : ℕ = get_or t.words 0 0 in
    let same = (r.seats 0 (Keeps p n) keeper).0 in
    let mine : r.plan.shut ≡ false = sym (ap (λ (q : GatePlan). q.shut) same) ∙ open' in
    let even : x % 2 ≡ 0 = even_of r.plan.shut r.plan.number x r.word mine in
    let number : x / 2 ≡ p.number = half r.plan.shut r.plan.number x r.word ∙ sym (ap (λ (q : GatePlan). q.number) same) in
    let told : looked x lane ≡ Inside lane (x / 2) = rw (eq-eqb (x % 2) 0 even) refl in
    told ∙ ap (Inside lane) number
