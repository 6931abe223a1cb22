-- If two notifies of a slot do not overlap, the later one makes a greater number.
use Rattle.std.proofs.Common.{◌≡◌, ℕ, ◌<◌, ◌≤◌, List, [], ◌∷◌, ◌++◌, get_or, get_or-set_same, set, refl, sym, ap, ◌∙◌, subst, arith}
use Rattle.std.specs.Prelude.{max}
use mathlib.Core.Logic.{dite}
use mathlib.Core.Option.{some, some-injective}
use native.Mathlib.Decide.{ℕ_discrete}
use lib.ListN.{get_elem?}
use Rattle.atomic_table.proofs.Lists.{at_longer, set_again, set_else, set_here}
use Rattle.kf_notify.specs.declared.view.NumberView.{NumberView}
use Rattle.kf_notify.specs.Rule.{Table, NumbersShown, IsSeated, number_at}
use Rattle.kf_notify.specs.Steps.{loaded, raised, doubled}
use Rattle.kf_notify.specs.TableSteps.{NumberStepKind, loads, raises, doubles, NumberStep, NumberRun}
use Rattle.kf_notify.specs.Laws.{StaysRaised, LaterIsGreater}
use Rattle.kf_notify.proofs.Allowed.{seat_within}
use Rattle.kf_notify.proofs.Runs.{step_keeps, never_goes_back}

-- after a raise, the slot's number is no less than the number that the raise makes
raised_to : (slots start : ℕ) (t : Table) (seat slot number : ℕ) (t' : Table) → NumbersShown slots start t → NumberStep slots t (raises seat slot number) t' → number ≤ number_at t' slot
raised_to slots start t seat slot number t' h s =
    let n : ℕ = get_or t.words slot 0 in
    let wide = h.wide in
    let near = s.2 in
    let here : number_at t' slot ≡ max n number = ap (λ (u : Table). number_at u slot) s.5 ∙ get_or-set_same t.words slot (max n number) 0 (omega arith) in
    omega arith

pub stays_raised : StaysRaised
stays_raised slots start t seat slot number kinds t' h run =
    let first = raised_to slots start t seat slot number run.0 h run.1 in
    let later = never_goes_back slots start run.0 kinds t' (step_keeps slots start t (raises seat slot number) run.0 h run.1) run.2 slot in
    omega arith

-- if this seat's last load was of this slot, it found no less than this number
abbrev HasSeen : Table → ℕ → ℕ → ℕ → Type 0
HasSeen t seat slot number = (v : NumberView) × IsSeated t seat v × (v.slot ≡ slot → number ≤ v.found)

-- after a seat's step to this view, another seat has seen as much as before, and so has the seat itself if
-- the new view has
stays_seen : (t : Table) (seat other slot number : ℕ) (v w : NumberView) → IsSeated t seat v → HasSeen t other slot number
    → (other ≡ seat → w.slot ≡ slot → number ≤ w.found)
    → (u : NumberView) × (get_elem? (set t.views seat w) other ≡ some u) × (u.slot ≡ slot → number ≤ u.found)
stays_seen t seat other slot number v w at seen own = dite (ℕ_discrete other seat)
    (λ same. (w, subst (λ (j : ℕ). get_elem? (set t.views seat w) j ≡ some w) (sym same) (set_here t.views seat w (seat_within t.views seat v at)), own same))
    (λ apart. (seen.0, set_else t.views seat other w apart ∙ seen.1, seen.2))

still_seen : (slots : ℕ) (t : Table) (kind : NumberStepKind) (t' : Table) (other slot number : ℕ) → NumberStep slots t kind t' → number ≤ number_at t slot
    → HasSeen t other slot number → HasSeen t' other slot number
still_seen slots t (loads seat place) t' other slot number s enough seen =
    let n : ℕ = get_or t.words place 0 in
    let w : NumberView = loaded place n s.0 in
    subst (λ (u : Table). HasSeen u other slot number) (sym s.3)
    (stays_seen t seat other slot number s.0 w s.1 seen (λ same here. subst (λ (i : ℕ). number ≤ get_or t.words i 0) (sym here) enough))
still_seen slots t (raises seat place made) t' other slot number s enough seen =
    subst (λ (u : Table). HasSeen u other slot number) (sym s.5)
    (stays_seen t seat other slot number s.0 (raised made s.0) s.1 seen
    (λ same here. let is : seen.0 ≡ s.0 = some-injective seen.0 s.0 (sym (subst (λ (j : ℕ). get_elem? t.views j ≡ some seen.0) same seen.1) ∙ s.1) in
    subst (λ (u : NumberView). u.slot ≡ slot → number ≤ u.found) is seen.2 here))
still_seen slots t (doubles seat) t' other slot number s enough seen =
    let same : set t.views seat s.0 ≡ t.views = set_again t.views seat s.0 s.1 in
    subst (λ (u : Table). HasSeen u other slot number) (sym s.2)
    (seen.0, subst (λ (l : List NumberView). get_elem? (l ++ doubled s.0 ∷ []) other ≡ some seen.0) (sym same) (at_longer t.views (doubled s.0 ∷ []) other seen.0 seen.1), seen.2)

-- a raise after such a load makes a greater number
after_load : (slots start : ℕ) (t : Table) (other slot number later : ℕ) (more : List NumberStepKind) (t' : Table) → NumbersShown slots start t
    → number ≤ number_at t slot → HasSeen t other slot number → NumberRun slots t (more ++ raises other slot later ∷ []) t' → number < later
after_load slots start t other slot number later [] t' h enough seen run =
    let s = run.1 in
    let is : seen.0 ≡ s.0 = some-injective seen.0 s.0 (sym seen.1 ∙ s.1) in
    let found : number ≤ s.0.found = subst (λ (u : NumberView). u.slot ≡ slot → number ≤ u.found) is seen.2 s.3 in
    let next = s.4 in
    omega arith
after_load slots start t other slot number later (kind ∷ more) t' h enough seen run =
    let kept = step_keeps slots start t kind run.0 h run.1 in
    let risen : number_at t slot ≤ number_at run.0 slot = never_goes_back slots start t (kind ∷ []) run.0 h (run.0, run.1, refl) slot in
    after_load slots start run.0 other slot number later more t' kept (omega arith) (still_seen slots t kind run.0 other slot number run.1 enough seen) run.2

-- a load followed by a raise makes a greater number, if the slot's number was no less than this number before
before_load : (slots start : ℕ) (t : Table) (other slot number later : ℕ) (kinds more : List NumberStepKind) (t' : Table) → NumbersShown slots start t
    → number ≤ number_at t slot → NumberRun slots t (kinds ++ loads other slot ∷ (more ++ raises other slot later ∷ [])) t' → number < later
before_load slots start t other slot number later [] more t' h enough run =
    let s = run.1 in
    let n : ℕ = get_or t.words slot 0 in
    let w : NumberView = loaded slot n s.0 in
    let kept = step_keeps slots start t (loads other slot) run.0 h s in
    let risen : number_at t slot ≤ number_at run.0 slot = never_goes_back slots start t (loads other slot ∷ []) run.0 h (run.0, s, refl) slot in
    let seen : HasSeen run.0 other slot number = subst (λ (u : Table). HasSeen u other slot number) (sym s.3)
    (w, set_here t.views other w (seat_within t.views other s.0 s.1), λ here. enough) in
    after_load slots start run.0 other slot number later more t' kept (omega arith) seen run.2
before_load slots start t other slot number later (kind ∷ kinds) more t' h enough run =
    let kept = step_keeps slots start t kind run.0 h run.1 in
    let risen : number_at t slot ≤ number_at run.0 slot = never_goes_back slots start t (kind ∷ []) run.0 h (run.0, run.1, refl) slot in
    before_load slots start run.0 other slot number later kinds more t' kept (omega arith) run.2

pub later_is_greater : LaterIsGreater
later_is_greater slots start t one other slot number later kinds more t' h run =
    before_load slots start run.0 other slot number later kinds more t' (step_keeps slots start t (raises one slot number) run.0 h run.1)
    (raised_to slots start t one slot number run.0 h run.1) run.2
