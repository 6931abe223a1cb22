-- What is true of every run of steps.
use Rattle.std.proofs.Common.{◌≡◌, ◌≢◌, ◌⊎◌, inl, inr, ℕ, ◌+◌, ◌*◌, ◌/◌, ◌%◌, ◌<◌, Bool, true, false, List, [], ◌∷◌, set, get_or, refl, sym, ap, ◌∙◌, subst, arith, eqb, eq-eqb, ne_eqb, ltb, ⊎_elim}
use mathlib.Core.Logic.{dite}
use mathlib.Core.Option.{some, some-injective}
use native.Mathlib.Decide.{ℕ_discrete}
use lib.ListN.{get_elem?}
use Rattle.atomic_table.proofs.Lists.{at_set, at_snoc, set_here, set_else, at_longer}
use Rattle.kf_gates.specs.declared.view.GatePlan.{GatePlan}
use Rattle.kf_gates.specs.declared.view.GateView.{GateView}
use Rattle.kf_gates.specs.declared.view.GateView.TheVariants.{Keeps, Outside, Looked, Full, Left, Counted, OneTooMany, Knocking, Inside, Turned, Broken, Restored}
use Rattle.kf_gates.specs.Rule.{Table, IsPass, bit, gate_word, most_passes, Kept}
use Rattle.kf_gates.specs.Laws.{Has}
use Rattle.kf_gates.specs.Steps.{after_count, looked, next_plan, pass_made, scanned, scanned_plan, shut_plan, stepped_off, uncounted}
use Rattle.kf_gates.specs.Runs.{Kind, CountsIn, MayUncount, one_more, one_less, moved, with_pass, GateStep, GateRun, OpensWell, RuleKept, NobodyPastTheMark, ClosedForGood}
use Rattle.kf_gates.specs.Runs.Kind.{knocks, looks, looks_back, leaves, breaks, restores, counts, uncounts, makes_pass, shuts, scans, opens, counts_sleep}
use Rattle.kf_gates.proofs.Counting.{there}
use Rattle.kf_gates.proofs.Keeping.{half, odd_of, knock_kept, look_kept, look_back_kept, leave_kept, break_kept, restore_kept, count_kept, uncount_kept, pass_kept, shut_kept, scan_kept, open_kept, sleep_kept, opening_kept, nobody_inside}

step_keeps : (lanes : ℕ) (t u : Table) (kind : Kind) → Kept lanes t → GateStep lanes t kind u → Kept lanes u
step_keeps lanes t u (knocks j k v) r s = subst (λ (x : Table). Kept lanes x) (sym s.3) (knock_kept lanes t r j k v s.0 s.1 s.2)
step_keeps lanes t u (looks j k) r s = subst (λ (x : Table). Kept lanes x) (sym s.1) (look_kept lanes t r j k s.0)
step_keeps lanes t u (looks_back j v) r s = subst (λ (x : Table). Kept lanes x) (sym s.2) (look_back_kept lanes t r j v s.0 s.1)
step_keeps lanes t u (leaves j k v) r s = subst (λ (x : Table). Kept lanes x) (sym s.3) (leave_kept lanes t r j k v s.0 s.1 s.2)
step_keeps lanes t u (breaks j k n) r s = subst (λ (x : Table). Kept lanes x) (sym s.2) (break_kept lanes t r j k n s.0 s.1)
step_keeps lanes t u (restores j k n) r s = subst (λ (x : Table). Kept lanes x) (sym s.2) (restore_kept lanes t r j k n s.0 s.1)
step_keeps lanes t u (counts j v) r s = subst (λ (x : Table). Kept lanes x) (sym s.2) (count_kept lanes t r j v s.0 s.1)
step_keeps lanes t u (uncounts j v) r s = subst (λ (x : Table). Kept lanes x) (sym s.2) (uncount_kept lanes t r j v s.0 s.1)
step_keeps lanes t u (makes_pass j v) r s = subst (λ (x : Table). Kept lanes x) (sym s.2) (pass_kept lanes t r j v s.0 s.1)
step_keeps lanes t u (shuts j p n) r s = subst (λ (x : Table). Kept lanes x) (sym s.2) (shut_kept lanes t r j p n s.0)
step_keeps lanes t u (scans j p n) r s = subst (λ (x : Table). Kept lanes x) (sym s.3) (scan_kept lanes t r j p n s.0 s.1 s.2)
step_keeps lanes t u (opens j p n) r s = subst (λ (x : Table). Kept lanes x) (sym s.2) (open_kept lanes t r j p n s.0 s.1)
step_keeps lanes t u (counts_sleep j p n w) r s = subst (λ (x : Table). Kept lanes x) (sym s.1) (sleep_kept lanes t r j p n (λ _. w) s.0)

pub rule_kept : RuleKept
rule_kept lanes t u [] r e = subst (λ (x : Table). Kept lanes x) (sym e) r
rule_kept lanes t u (kind ∷ kinds) r s = rule_kept lanes s.0 u kinds (step_keeps lanes t s.0 kind r s.1) s.2

-- what one step does to the keeper's plan: it leaves the plan as it is, except that a pass may be made; it
-- shuts the gate; it looks at a lane; or it begins the next opening
data Onward (lanes : ℕ) (p q : GatePlan) : Type 0 where
  stays : q.number ≡ p.number → q.shut ≡ p.shut → q.seen ≡ p.seen → Onward lanes p q
  is_shut : p.shut ≡ false → q.number ≡ p.number → q.shut ≡ true → Onward lanes p q
  looks_on : p.seen < lanes → q.number ≡ p.number → q.shut ≡ p.shut → Onward lanes p q
  begins : q.number ≡ p.number + 1 → Onward lanes p q

-- the keeper's plan after a step
abbrev After : ℕ → GatePlan → Table → Type 0
After lanes p u = (q : GatePlan) × ((n : ℕ) × Has u 0 (Keeps q n)) × Onward lanes p q

abbrev is_keeper : GateView → Bool
is_keeper (Keeps p n) = true
is_keeper Outside = false
is_keeper (Looked f) = false
is_keeper (Full f) = false
is_keeper (Left f) = false
is_keeper Counted = false
is_keeper (OneTooMany f) = false
is_keeper (Knocking k) = false
is_keeper (Inside k n) = false
is_keeper (Turned k f) = false
is_keeper (Broken k n) = false
is_keeper (Restored k n) = false

not_both : false ≡ true → ⊥
not_both e = let one : bit false ≡ bit true = ap bit e in omega arith

other_seat : (t : Table) (j : ℕ) (v : GateView) (p : GatePlan) (n : ℕ) → Has t j v → is_keeper v ≡ false → Has t 0 (Keeps p n) → 0 ≢ j
other_seat t j v p n at caller keeper e =
    let same : v ≡ Keeps p n = some-injective v (Keeps p n) (sym at ∙ ap (λ (x : ℕ). get_elem? t.views x) (sym e) ∙ keeper) in
    not_both (sym caller ∙ ap is_keeper same)

-- a step of a seat that is not the keeper's leaves the keeper's plan as it is
other_moves : (lanes : ℕ) (t : Table) (i : ℕ) (f : ℕ → ℕ) (j : ℕ) (v w : GateView) (p : GatePlan) (n : ℕ) → Has t j v → is_keeper v ≡ false → Has t 0 (Keeps p n) → After lanes p (moved t i f j w)
other_moves lanes t i f j v w p n at caller keeper = (p, (n, set_else t.views j 0 w (other_seat t j v p n at caller keeper) ∙ keeper), stays refl refl refl)

-- after a step of the keeper, its new plan is at the first seat of the table
keeper_moves : (lanes : ℕ) (t : Table) (r : Kept lanes t) (i : ℕ) (f : ℕ → ℕ) (j : ℕ) (p p' q : GatePlan) (n n' m : ℕ) → Has t j (Keeps p n) → Has t 0 (Keeps p' n') → Onward lanes p q → After lanes p' (moved t i f j (Keeps q m))
keeper_moves lanes t r i f j p p' q n n' m at keeper onward =
    let first = (r.seats j (Keeps p n) at).1 in let same : p ≡ p' = (r.seats j (Keeps p n) at).0 ∙ sym (r.seats 0 (Keeps p' n') keeper).0 in
    let v : GateView = Keeps q m in
    (q, (m, subst (λ (x : ℕ). get_elem? (set t.views x v) 0 ≡ some v) (sym first) (set_here t.views 0 v (there t.views 0 (Keeps p' n') keeper))), subst (λ (x : GatePlan). Onward lanes x q) same onward)

pass_moves : (lanes : ℕ) (t : Table) (r : Kept lanes t) (j : ℕ) (v : GateView) (p : GatePlan) → After lanes p (moved t 0 (λ n. n) j (pass_made v)) → After lanes p (with_pass t j v)
pass_moves lanes t r j v p after = (after.0, (after.1.0, at_longer (set t.views j (pass_made v)) (Outside ∷ []) 0 (Keeps after.0 after.1.0) after.1.1), after.2)

makes_onward : (lanes : ℕ) (t : Table) (r : Kept lanes t) (j : ℕ) (v : GateView) (p : GatePlan) (h : ℕ) → Has t j v → Has t 0 (Keeps p h) → After lanes p (with_pass t j v)
makes_onward lanes t r j (Keeps q m) p h at keeper = pass_moves lanes t r j (Keeps q m) p (keeper_moves lanes t r 0 (λ n. n) j q p (record q { spare = false }) m h m at keeper (stays refl refl refl))
makes_onward lanes t r j Outside p h at keeper = pass_moves lanes t r j Outside p (other_moves lanes t 0 (λ n. n) j Outside Outside p h at refl keeper)
makes_onward lanes t r j (Looked f) p h at keeper = pass_moves lanes t r j (Looked f) p (other_moves lanes t 0 (λ n. n) j (Looked f) (Looked f) p h at refl keeper)
makes_onward lanes t r j (Full f) p h at keeper = pass_moves lanes t r j (Full f) p (other_moves lanes t 0 (λ n. n) j (Full f) (Full f) p h at refl keeper)
makes_onward lanes t r j (Left f) p h at keeper = pass_moves lanes t r j (Left f) p (other_moves lanes t 0 (λ n. n) j (Left f) (Left f) p h at refl keeper)
makes_onward lanes t r j Counted p h at keeper = pass_moves lanes t r j Counted p (other_moves lanes t 0 (λ n. n) j Counted Outside p h at refl keeper)
makes_onward lanes t r j (OneTooMany f) p h at keeper = pass_moves lanes t r j (OneTooMany f) p (other_moves lanes t 0 (λ n. n) j (OneTooMany f) (OneTooMany f) p h at refl keeper)
makes_onward lanes t r j (Knocking k) p h at keeper = pass_moves lanes t r j (Knocking k) p (other_moves lanes t 0 (λ n. n) j (Knocking k) (Knocking k) p h at refl keeper)
makes_onward lanes t r j (Inside k n) p h at keeper = pass_moves lanes t r j (Inside k n) p (other_moves lanes t 0 (λ n. n) j (Inside k n) (Inside k n) p h at refl keeper)
makes_onward lanes t r j (Turned k f) p h at keeper = pass_moves lanes t r j (Turned k f) p (other_moves lanes t 0 (λ n. n) j (Turned k f) (Turned k f) p h at refl keeper)
makes_onward lanes t r j (Broken k n) p h at keeper = pass_moves lanes t r j (Broken k n) p (other_moves lanes t 0 (λ n. n) j (Broken k n) (Broken k n) p h at refl keeper)
makes_onward lanes t r j (Restored k n) p h at keeper = pass_moves lanes t r j (Restored k n) p (other_moves lanes t 0 (λ n. n) j (Restored k n) (Restored k n) p h at refl keeper)

counting_caller : (k : ℕ) (v : GateView) → CountsIn k v → is_keeper v ≡ false
counting_caller k (Keeps p n) c = absurd c
counting_caller k Outside c = refl
counting_caller k (Looked f) c = refl
counting_caller k (Full f) c = refl
counting_caller k (Left f) c = refl
counting_caller k Counted c = refl
counting_caller k (OneTooMany f) c = refl
counting_caller k (Knocking j) c = refl
counting_caller k (Inside j n) c = refl
counting_caller k (Turned j f) c = refl
counting_caller k (Broken j n) c = refl
counting_caller k (Restored j n) c = refl

a_pass : (v : GateView) → IsPass v → is_keeper v ≡ false
a_pass (Keeps p n) c = absurd c
a_pass Outside c = refl
a_pass (Looked f) c = refl
a_pass (Full f) c = refl
a_pass (Left f) c = refl
a_pass Counted c = refl
a_pass (OneTooMany f) c = refl
a_pass (Knocking j) c = refl
a_pass (Inside j n) c = refl
a_pass (Turned j f) c = refl
a_pass (Broken j n) c = refl
a_pass (Restored j n) c = refl

uncounting_caller : (v : GateView) → MayUncount v → is_keeper v ≡ false
uncounting_caller (Keeps p n) c = absurd c
uncounting_caller Outside c = refl
uncounting_caller (Looked f) c = refl
uncounting_caller (Full f) c = refl
uncounting_caller (Left f) c = refl
uncounting_caller Counted c = refl
uncounting_caller (OneTooMany f) c = refl
uncounting_caller (Knocking j) c = refl
uncounting_caller (Inside j n) c = refl
uncounting_caller (Turned j f) c = refl
uncounting_caller (Broken j n) c = refl
uncounting_caller (Restored j n) c = refl

goes_onward : (lanes : ℕ) (t u : Table) (kind : Kind) (r : Kept lanes t) → GateStep lanes t kind u → (p : GatePlan) (h : ℕ) → Has t 0 (Keeps p h) → After lanes p u
goes_onward lanes t u (knocks j k v) r s p h keeper = subst (After lanes p) (sym s.3) (other_moves lanes t (8 * k + 8) one_more j v (Knocking k) p h s.0 (a_pass v s.1) keeper)
goes_onward lanes t u (looks j k) r s p h keeper = subst (After lanes p) (sym s.1) (other_moves lanes t 0 (λ n. n) j (Knocking k) (looked (get_or t.words 0 0) k) p h s.0 refl keeper)
goes_onward lanes t u (looks_back j v) r s p h keeper = subst (After lanes p) (sym s.2) (other_moves lanes t 0 (λ n. n) j v (Left (get_or t.words 0 0)) p h s.0 (a_pass v s.1) keeper)
goes_onward lanes t u (leaves j k v) r s p h keeper = subst (After lanes p) (sym s.3) (other_moves lanes t (8 * k + 8) one_less j v (stepped_off v) p h s.0 (counting_caller k v s.1) keeper)
goes_onward lanes t u (breaks j k n) r s p h keeper = subst (After lanes p) (sym s.2) (other_moves lanes t (8 * k + 8) one_less j (Inside k n) (Broken k n) p h s.0 refl keeper)
goes_onward lanes t u (restores j k n) r s p h keeper = subst (After lanes p) (sym s.2) (other_moves lanes t (8 * k + 8) one_more j (Broken k n) (Restored k n) p h s.0 refl keeper)
goes_onward lanes t u (counts j v) r s p h keeper = subst (After lanes p) (sym s.2) (other_moves lanes t 2 one_more j v (after_count (get_or t.words 2 0)) p h s.0 (a_pass v s.1) keeper)
goes_onward lanes t u (uncounts j v) r s p h keeper = subst (After lanes p) (sym s.2) (other_moves lanes t 2 one_less j v (uncounted v) p h s.0 (uncounting_caller v s.1) keeper)
goes_onward lanes t u (makes_pass j v) r s p h keeper = subst (After lanes p) (sym s.2) (makes_onward lanes t r j v p h s.0 keeper)
goes_onward lanes t u (shuts j q m) r s p h keeper = subst (After lanes p) (sym s.2) (keeper_moves lanes t r 0 (λ _. gate_word q.number true) j q p (shut_plan q) m h m s.0 keeper (is_shut s.1 refl refl))
goes_onward lanes t u (scans j q m) r s p h keeper =
    let i : ℕ = 8 * q.seen + 8 in let x : ℕ = get_or t.words i 0 in
    subst (After lanes p) (sym s.3) (keeper_moves lanes t r i (λ n. n) j q p (scanned_plan x q) m h (m + 1) s.0 keeper (looks_on s.2 refl refl))
goes_onward lanes t u (opens j q m) r s p h keeper = subst (After lanes p) (sym s.2) (keeper_moves lanes t r 0 (λ _. gate_word (q.number + 1) false) j q p (next_plan q) m h m s.0 keeper (begins refl))
goes_onward lanes t u (counts_sleep j q m w) r s p h keeper = subst (After lanes p) (sym s.1) (keeper_moves lanes t r 1 (λ _. w) j q p q m h m s.0 keeper (stays refl refl refl))

-- the opening of this number is over, or the gate has been opened since
abbrev Over : ℕ → ℕ → GatePlan → Type 0
Over lanes n p = (n < p.number) ⊎ ((p.number ≡ n) × (p.shut ≡ true) × (p.seen ≡ lanes))

over_onward : (lanes n : ℕ) (p q : GatePlan) → Onward lanes p q → Over lanes n p → Over lanes n q
over_onward lanes n p q (stays number shut seen) (inl later) = inl (omega arith)
over_onward lanes n p q (stays number shut seen) (inr now) = inr (number ∙ now.0, shut ∙ now.1, seen ∙ now.2)
over_onward lanes n p q (is_shut was number shut) (inl later) = inl (omega arith)
over_onward lanes n p q (is_shut was number shut) (inr now) = absurd (not_both (sym was ∙ now.1))
over_onward lanes n p q (looks_on less number shut) (inl later) = inl (omega arith)
over_onward lanes n p q (looks_on less number shut) (inr now) = let seen = now.2 in absurd (omega arith)
over_onward lanes n p q (begins number) (inl later) = inl (omega arith)
over_onward lanes n p q (begins number) (inr now) = let same = now.0 in inl (omega arith)

-- the gate has been shut since it was opened under this number
abbrev Past : ℕ → GatePlan → Type 0
Past n p = (n < p.number) ⊎ ((p.number ≡ n) × (p.shut ≡ true))

past_onward : (lanes n : ℕ) (p q : GatePlan) → Onward lanes p q → Past n p → Past n q
past_onward lanes n p q (stays number shut seen) (inl later) = inl (omega arith)
past_onward lanes n p q (stays number shut seen) (inr now) = inr (number ∙ now.0, shut ∙ now.1)
past_onward lanes n p q (is_shut was number shut) (inl later) = inl (omega arith)
past_onward lanes n p q (is_shut was number shut) (inr now) = inr (number ∙ now.0, shut)
past_onward lanes n p q (looks_on less number shut) (inl later) = inl (omega arith)
past_onward lanes n p q (looks_on less number shut) (inr now) = inr (number ∙ now.0, shut ∙ now.1)
past_onward lanes n p q (begins number) (inl later) = inl (omega arith)
past_onward lanes n p q (begins number) (inr now) = let same = now.0 in inl (omega arith)

run_over : (lanes n : ℕ) (t u : Table) (kinds : List Kind) → Kept lanes t → GateRun lanes t kinds u → (p : GatePlan) (h : ℕ) → Has t 0 (Keeps p h) → Over lanes n p → (q : GatePlan) × ((m : ℕ) × Has u 0 (Keeps q m)) × Over lanes n q
run_over lanes n t u [] r e p h keeper over = subst (λ (x : Table). (q : GatePlan) × ((m : ℕ) × Has x 0 (Keeps q m)) × Over lanes n q) (sym e) (p, (h, keeper), over)
run_over lanes n t u (kind ∷ kinds) r s p h keeper over =
    let after = goes_onward lanes t s.0 kind r s.1 p h keeper in
    run_over lanes n s.0 u kinds (step_keeps lanes t s.0 kind r s.1) s.2 after.0 after.1.0 after.1.1 (over_onward lanes n p after.0 after.2 over)

pub closed_for_good : ClosedForGood
closed_for_good lanes t u kinds r run p h keeper over seat lane number inside =
    let after : Kept lanes u = rule_kept lanes t u kinds r run in
    let end = run_over lanes p.number t u kinds r run p h keeper (inr (refl, over.shut, over.seen)) in
    let q : GatePlan = end.0 in
    let its : number ≡ q.number = (after.seats seat (Inside lane number) inside).1 ∙ ap (λ (x : GatePlan). x.number) (sym (after.seats 0 (Keeps q end.1.0) end.1.1).0) in
    ⊎_elim (λ (later : p.number < q.number). omega arith)
    (λ (now : (q.number ≡ p.number) × (q.shut ≡ true) × (q.seen ≡ lanes)). absurd (nobody_inside lanes u after 0 q end.1.0 end.1.1 (record { shut = now.1; seen = now.2 }) seat lane number inside))
    end.2

-- whether the seat is inside under this number
abbrev inside_under : ℕ → GateView → Bool
inside_under n (Keeps p h) = false
inside_under n Outside = false
inside_under n (Looked f) = false
inside_under n (Full f) = false
inside_under n (Left f) = false
inside_under n Counted = false
inside_under n (OneTooMany f) = false
inside_under n (Knocking k) = false
inside_under n (Inside k m) = eqb m n
inside_under n (Turned k f) = false
inside_under n (Broken k m) = false
inside_under n (Restored k m) = false

-- a step that lets nobody in under the number
lets_none : (t : Table) (i : ℕ) (f : ℕ → ℕ) (j n : ℕ) (w : GateView) → inside_under n w ≡ false → (seat lane : ℕ) → Has (moved t i f j w) seat (Inside lane n) → Has t seat (Inside lane n)
lets_none t i f j n w out seat lane inside = ⊎_elim
    (λ (here : (seat ≡ j) × (w ≡ Inside lane n)). absurd (not_both (sym (sym (ap (inside_under n) here.1) ∙ out) ∙ eq-eqb n n refl)))
    (λ (else : (seat ≢ j) × Has t seat (Inside lane n)). else.1)
    (at_set t.views j seat w (Inside lane n) inside)

stepped_out : (n : ℕ) (k : ℕ) (v : GateView) → CountsIn k v → inside_under n (stepped_off v) ≡ false
stepped_out n k (Keeps p h) c = absurd c
stepped_out n k Outside c = refl
stepped_out n k (Looked f) c = refl
stepped_out n k (Full f) c = refl
stepped_out n k (Left f) c = refl
stepped_out n k Counted c = refl
stepped_out n k (OneTooMany f) c = refl
stepped_out n k (Knocking j) c = refl
stepped_out n k (Inside j m) c = refl
stepped_out n k (Turned j f) c = refl
stepped_out n k (Broken j m) c = refl
stepped_out n k (Restored j m) c = refl

uncounted_out : (n : ℕ) (v : GateView) → MayUncount v → inside_under n (uncounted v) ≡ false
uncounted_out n (Keeps p h) c = absurd c
uncounted_out n Outside c = refl
uncounted_out n (Looked f) c = refl
uncounted_out n (Full f) c = refl
uncounted_out n (Left f) c = refl
uncounted_out n Counted c = refl
uncounted_out n (OneTooMany f) c = refl
uncounted_out n (Knocking j) c = absurd c
uncounted_out n (Inside j m) c = absurd c
uncounted_out n (Turned j f) c = refl
uncounted_out n (Broken j m) c = refl
uncounted_out n (Restored j m) c = refl

counted_out : (n found : ℕ) → inside_under n (after_count found) ≡ false
counted_out n found = split (ltb found most_passes) refl
  where
    split : (b : Bool) → ltb found most_passes ≡ b → inside_under n (after_count found) ≡ false
    split true e = let told : after_count found ≡ Counted = rw e refl in ap (inside_under n) told
    split false e = let told : after_count found ≡ OneTooMany found = rw e refl in ap (inside_under n) told

-- a look after the gate was shut lets nobody in under the number
looked_out : (lanes : ℕ) (t : Table) (r : Kept lanes t) (n k : ℕ) (p : GatePlan) (h : ℕ) → Has t 0 (Keeps p h) → Past n p → inside_under n (looked (get_or t.words 0 0) k) ≡ false
looked_out lanes t r n k p h keeper past =
    let x : ℕ = get_or t.words 0 0 in let same = (r.seats 0 (Keeps p h) keeper).0 in
    dite (ℕ_discrete (x % 2) 0)
    (λ even. let told : looked x k ≡ Inside k (x / 2) = rw (eq-eqb (x % 2) 0 even) refl in
    let number : x / 2 ≡ p.number = half r.plan.shut r.plan.number x r.word ∙ sym (ap (λ (q : GatePlan). q.number) same) in
    ap (inside_under n) told ∙ ne_eqb (x / 2) n (λ e. ⊎_elim
    (λ (later : n < p.number). omega arith)
    (λ (now : (p.number ≡ n) × (p.shut ≡ true)). let odd : x % 2 ≡ 1 = odd_of r.plan.shut r.plan.number x r.word (sym (ap (λ (q : GatePlan). q.shut) same) ∙ now.1) in omega arith) past))
    (λ odd. let told : looked x k ≡ Turned k x = rw (ne_eqb (x % 2) 0 odd) refl in ap (inside_under n) told)

passed_out : (t : Table) (j n : ℕ) (v : GateView) → Has t j v → (seat lane : ℕ) → Has (with_pass t j v) seat (Inside lane n) → Has t seat (Inside lane n)
passed_out t j n v at seat lane inside = ⊎_elim
    (λ (old : get_elem? (set t.views j (pass_made v)) seat ≡ some (Inside lane n)). ⊎_elim
    (λ (here : (seat ≡ j) × (pass_made v ≡ Inside lane n)). subst (λ (x : ℕ). Has t x (Inside lane n)) (sym here.0) (subst (Has t j) (unmade v here.1) at))
    (λ (else : (seat ≢ j) × Has t seat (Inside lane n)). else.1)
    (at_set t.views j seat (pass_made v) (Inside lane n) old))
    (λ (same : Outside ≡ Inside lane n). absurd (not_both (ap (inside_under n) same ∙ eq-eqb n n refl)))
    (at_snoc (set t.views j (pass_made v)) Outside (Inside lane n) seat inside)
  where
    unmade : (y : GateView) → pass_made y ≡ Inside lane n → y ≡ Inside lane n
    unmade (Keeps p h) e = absurd (not_both (ap (inside_under n) e ∙ eq-eqb n n refl))
    unmade Outside e = e
    unmade (Looked f) e = e
    unmade (Full f) e = e
    unmade (Left f) e = e
    unmade Counted e = absurd (not_both (ap (inside_under n) e ∙ eq-eqb n n refl))
    unmade (OneTooMany f) e = e
    unmade (Knocking k) e = e
    unmade (Inside k m) e = e
    unmade (Turned k f) e = e
    unmade (Broken k m) e = e
    unmade (Restored k m) e = e

-- no step after the gate was shut lets anybody in under the number
none_enters : (lanes n : ℕ) (t u : Table) (kind : Kind) (r : Kept lanes t) → GateStep lanes t kind u → (p : GatePlan) (h : ℕ) → Has t 0 (Keeps p h) → Past n p
    → (seat lane : ℕ) → Has u seat (Inside lane n) → Has t seat (Inside lane n)
none_enters lanes n t u (knocks j k v) r s p h keeper past seat lane inside = lets_none t (8 * k + 8) one_more j n (Knocking k) refl seat lane (subst (λ (x : Table). Has x seat (Inside lane n)) s.3 inside)
none_enters lanes n t u (looks j k) r s p h keeper past seat lane inside =
    lets_none t 0 (λ m. m) j n (looked (get_or t.words 0 0) k) (looked_out lanes t r n k p h keeper past) seat lane (subst (λ (x : Table). Has x seat (Inside lane n)) s.1 inside)
none_enters lanes n t u (looks_back j v) r s p h keeper past seat lane inside = lets_none t 0 (λ m. m) j n (Left (get_or t.words 0 0)) refl seat lane (subst (λ (x : Table). Has x seat (Inside lane n)) s.2 inside)
none_enters lanes n t u (leaves j k v) r s p h keeper past seat lane inside = lets_none t (8 * k + 8) one_less j n (stepped_off v) (stepped_out n k v s.1) seat lane (subst (λ (x : Table). Has x seat (Inside lane n)) s.3 inside)
none_enters lanes n t u (breaks j k m) r s p h keeper past seat lane inside = lets_none t (8 * k + 8) one_less j n (Broken k m) refl seat lane (subst (λ (x : Table). Has x seat (Inside lane n)) s.2 inside)
none_enters lanes n t u (restores j k m) r s p h keeper past seat lane inside = lets_none t (8 * k + 8) one_more j n (Restored k m) refl seat lane (subst (λ (x : Table). Has x seat (Inside lane n)) s.2 inside)
none_enters lanes n t u (counts j v) r s p h keeper past seat lane inside =
    lets_none t 2 one_more j n (after_count (get_or t.words 2 0)) (counted_out n (get_or t.words 2 0)) seat lane (subst (λ (x : Table). Has x seat (Inside lane n)) s.2 inside)
none_enters lanes n t u (uncounts j v) r s p h keeper past seat lane inside = lets_none t 2 one_less j n (uncounted v) (uncounted_out n v s.1) seat lane (subst (λ (x : Table). Has x seat (Inside lane n)) s.2 inside)
none_enters lanes n t u (makes_pass j v) r s p h keeper past seat lane inside = passed_out t j n v s.0 seat lane (subst (λ (x : Table). Has x seat (Inside lane n)) s.2 inside)
none_enters lanes n t u (shuts j q m) r s p h keeper past seat lane inside = lets_none t 0 (λ _. gate_word q.number true) j n (Keeps (shut_plan q) m) refl seat lane (subst (λ (x : Table). Has x seat (Inside lane n)) s.2 inside)
none_enters lanes n t u (scans j q l) r s p h keeper past seat lane inside =
    lets_none t (8 * q.seen + 8) (λ m. m) j n (scanned (get_or t.words (8 * q.seen + 8) 0) q l) refl seat lane (subst (λ (x : Table). Has x seat (Inside lane n)) s.3 inside)
none_enters lanes n t u (opens j q m) r s p h keeper past seat lane inside = lets_none t 0 (λ _. gate_word (q.number + 1) false) j n (Keeps (next_plan q) m) refl seat lane (subst (λ (x : Table). Has x seat (Inside lane n)) s.2 inside)
none_enters lanes n t u (counts_sleep j q m w) r s p h keeper past seat lane inside = lets_none t 1 (λ _. w) j n (Keeps q m) refl seat lane (subst (λ (x : Table). Has x seat (Inside lane n)) s.1 inside)

run_past : (lanes n : ℕ) (t u : Table) (kinds : List Kind) → Kept lanes t → GateRun lanes t kinds u → (p : GatePlan) (h : ℕ) → Has t 0 (Keeps p h) → Past n p
    → (seat lane : ℕ) → Has u seat (Inside lane n) → Has t seat (Inside lane n)
run_past lanes n t u [] r e p h keeper past seat lane inside = subst (λ (x : Table). Has x seat (Inside lane n)) e inside
run_past lanes n t u (kind ∷ kinds) r s p h keeper past seat lane inside =
    let after = goes_onward lanes t s.0 kind r s.1 p h keeper in
    none_enters lanes n t s.0 kind r s.1 p h keeper past seat lane
    (run_past lanes n s.0 u kinds (step_keeps lanes t s.0 kind r s.1) s.2 after.0 after.1.0 after.1.1 (past_onward lanes n p after.0 after.2 past) seat lane inside)

pub nobody_past_the_mark : NobodyPastTheMark
nobody_past_the_mark lanes t u kinds r run p h keeper shut seat lane inside = run_past lanes p.number t u kinds r run p h keeper (inr (refl, shut)) seat lane inside

pub opens_well : OpensWell
opens_well lanes = opening_kept lanes
