-- What the rule says about the one run: each table that meets the rule ends a run from the opening.
use Rattle.std.proofs.Common.{◌≡◌, ◌⊎◌, inl, inr, ℕ, zero, suc, ◌≤◌, List, [], ◌∷◌, ◌++◌, refl, sym, ap, ◌∙◌, subst, ⊎_elim, arith}
use Rattle.std.specs.Prelude.{max, Contains}
use mathlib.Core.Logic.{dite}
use mathlib.Core.Option.{some, some-injective, some-ne-none}
use mathlib.Core.List.{IsPrefix}
use native.Mathlib.Decide.{dec_le}
use lib.ListN.{get_elem?}
use Rattle.kf_notify.specs.declared.sight.NumberSight.{NumberSight}
use Rattle.kf_notify.specs.Rule.{Table, NumbersShown, number_at}
use Rattle.kf_notify.specs.TableSteps.{NumberStepKind, raises, NumberRun}
use Rattle.kf_notify.specs.History.{erased, opened_as, IsBeginning, first_sight, OpensKept, EndsARun, SeenLeadsHere, RaisedEverAfter, FirstOrRaised, OneRunIsSeen}
use Rattle.kf_notify.proofs.Allowed.{replicated}
use Rattle.kf_notify.proofs.Runs.{opens_well, rule_kept, step_keeps, never_goes_back, none_skipped}
use Rattle.kf_notify.proofs.Greater.{stays_raised}
use Rattle.kf_notify.proofs.Keeps.{run_parts}

-- the opening meets the rule
pub opens_kept : OpensKept
opens_kept o = record {
  log = [];
  run = refl;
  seen = first;
  shown = opens_well o.slots o.start;
}
  where
    first : (place : ℕ) (s : NumberSight) → get_elem? (first_sight o ∷ []) place ≡ some s → IsBeginning o s.seen []
    first zero s e = subst (λ (x : NumberSight). IsBeginning o x.seen []) (some-injective (first_sight o) s e) (refl, ([], refl))
    first (suc place) s e = absurd (some-ne-none s (sym e))

pub ends_a_run : EndsARun
ends_a_run o t kept = (kept.run, kept.shown)

pub seen_leads_here : SeenLeadsHere
seen_leads_here o t kept place s at =
    let b = kept.seen place s at in
    let later : List NumberStepKind = b.1.0 in
    let p = run_parts o.slots s.seen.steps later (opened_as o) (erased t) (subst (λ (l : List NumberStepKind). NumberRun o.slots (opened_as o) l (erased t)) (sym b.1.1) kept.run) in
    let met : NumbersShown o.slots o.start p.0 = rule_kept o.slots o.start (opened_as o) s.seen.steps p.0 (opens_well o.slots o.start) p.1 in
    (b.0, later, p.0, b.1.1, met, p.1, p.2, never_goes_back o.slots o.start p.0 later (erased t) met p.2)

-- after a raise in a run, a slot's number is no less than what it was raised to
raised_in : (slots start : ℕ) (t : Table) (kinds : List NumberStepKind) (t' : Table) (seat slot number : ℕ) → NumbersShown slots start t → NumberRun slots t kinds t' → Contains kinds (raises seat slot number)
    → number ≤ number_at t' slot
raised_in slots start t [] t' seat slot number h run at = let near = at.1 in absurd (omega arith)
raised_in slots start t (kind ∷ kinds) t' seat slot number h run (zero, near, is) =
    stays_raised slots start t seat slot number kinds t' h (subst (λ (k : NumberStepKind). NumberRun slots t (k ∷ kinds) t') is run)
raised_in slots start t (kind ∷ kinds) t' seat slot number h run (suc i, near, is) =
    raised_in slots start run.0 kinds t' seat slot number (step_keeps slots start t kind run.0 h run.1) run.2 (i, omega arith, is)

pub raised_ever_after : RaisedEverAfter
raised_ever_after o t kept seat slot number at = raised_in o.slots o.start (opened_as o) kept.log (erased t) seat slot number (opens_well o.slots o.start) kept.run at

pub first_or_raised : FirstOrRaised
first_or_raised o t kept slot near =
    let n : ℕ = number_at (erased t) slot in
    let begun : number_at (opened_as o) slot ≡ o.start = replicated (max o.slots 1) slot o.start (omega arith) in
    let least : o.start ≤ n = kept.shown.least slot near in
    dite (dec_le n o.start)
    (λ under. inl (omega arith))
    (λ over. inr (none_skipped o.slots o.start (opened_as o) kept.log (erased t) (opens_well o.slots o.start) kept.run slot n (omega arith) (omega arith)))

abbrev head_of : {A : Type 0} → A → List A → A
head_of d [] = d
head_of d (x ∷ xs) = x

abbrev tail_of : {A : Type 0} → List A → List A
tail_of [] = []
tail_of (x ∷ xs) = xs

-- of two beginnings of one list, one is a beginning of the other
beginnings : {A : Type 0} (xs ys p q : List A) → xs ++ p ≡ ys ++ q → IsPrefix xs ys ⊎ IsPrefix ys xs
beginnings [] ys p q e = inl (ys, refl)
beginnings (x ∷ xs) [] p q e = inr (x ∷ xs, refl)
beginnings (x ∷ xs) (y ∷ ys) p q e =
    let head : x ≡ y = ap (head_of x) e in
    ⊎_elim
    (λ (a : IsPrefix xs ys). inl (a.0, ap (λ l. x ∷ l) a.1 ∙ ap (λ h. h ∷ ys) head))
    (λ (a : IsPrefix ys xs). inr (a.0, ap (λ l. y ∷ l) a.1 ∙ ap (λ h. h ∷ xs) (sym head)))
    (beginnings xs ys p q (ap tail_of e))

pub one_run_is_seen : OneRunIsSeen
one_run_is_seen o t kept i j a b at there =
    let x = (kept.seen i a at).1 in
    let y = (kept.seen j b there).1 in
    beginnings a.seen.steps b.seen.steps x.0 y.0 (x.1 ∙ sym y.1)
