-- The laws about every run of steps.
use Rattle.std.proofs.Common.{◌≡◌, ◌⊎◌, inl, inr, ⊎_elim, ℕ, suc, ◌+◌, ◌<◌, ◌≤◌, List, [], ◌∷◌, length, get_or, get_or-set_same, get_or-set_other, set, sym, ap, ◌∙◌, subst, arith}
use Rattle.std.specs.Prelude.{max, Contains}
use Rattle.std.proofs.lemmas.List.{set-get_or}
use mathlib.Core.Logic.{dite}
use native.Mathlib.Decide.{ℕ_discrete, dec_le}
use Rattle.atomic_table.specs.Table.{stepped, keeps}
use Rattle.kf_notify.specs.Rule.{Table, NumbersShown, number_at}
use Rattle.kf_notify.specs.Steps.{raised}
use Rattle.kf_notify.specs.TableSteps.{NumberStepKind, loads, raises, doubles, NumberStep}
use Rattle.kf_notify.specs.Laws.{NeverBelow, NeverBelowTheFirst, OpensWell, RuleKept, NeverGoesBack, NoneSkipped}
use Rattle.kf_notify.proofs.Allowed.{load_keeps, raise_keeps, double_keeps, opening_shown}

pub never_below : NeverBelow
never_below slots start t shown seat v at = shown.known seat v at

pub never_below_the_first : NeverBelowTheFirst
never_below_the_first slots start t shown = shown.least

pub opens_well : OpensWell
opens_well slots start = opening_shown slots (max slots 1) start (omega arith)

pub step_keeps : (slots start : ℕ) (t : Table) (kind : NumberStepKind) (t' : Table) → NumbersShown slots start t → NumberStep slots t kind t' → NumbersShown slots start t'
step_keeps slots start t (loads seat slot) t' h s = subst (λ (u : Table). NumbersShown slots start u) (sym s.3) (load_keeps slots start t seat s.0 slot h s.1 s.2)
step_keeps slots start t (raises seat slot number) t' h s =
    let kept : NumbersShown slots start (stepped t s.0.slot (max (number_at t s.0.slot) number) seat [] (raised number s.0) keeps) =
    raise_keeps slots start t seat s.0 number h s.1 (subst (λ (k : ℕ). k < slots) (sym s.3) s.2) s.4 in
    subst (λ (u : Table). NumbersShown slots start u) (sym s.5)
    (subst (λ (k : ℕ). NumbersShown slots start (stepped t k (max (number_at t k) number) seat [] (raised number s.0) keeps)) s.3 kept)
step_keeps slots start t (doubles seat) t' h s = subst (λ (u : Table). NumbersShown slots start u) (sym s.2) (double_keeps slots start seat s.0 t h s.1)

pub rule_kept : RuleKept
rule_kept slots start t [] t' h run = subst (λ (u : Table). NumbersShown slots start u) (sym run) h
rule_kept slots start t (kind ∷ kinds) t' h run = rule_kept slots start run.0 kinds t' (step_keeps slots start t kind run.0 h run.1) run.2

-- a step leaves a slot's number as it is, or it is the raise that made the next number
abbrev StaysOrRises : Table → NumberStepKind → Table → ℕ → Type 0
StaysOrRises t kind t' slot = (number_at t' slot ≡ number_at t slot)
    ⊎ ((number_at t' slot ≡ number_at t slot + 1) × (seat : ℕ) × (kind ≡ raises seat slot (number_at t slot + 1)))

raise_stays_or_rises : (slots start : ℕ) (t : Table) (seat slot number : ℕ) (t' : Table) → NumbersShown slots start t → NumberStep slots t (raises seat slot number) t' → (k : ℕ) → StaysOrRises t (raises seat slot number) t' k
raise_stays_or_rises slots start t seat slot number t' h s k =
    let n : ℕ = get_or t.words slot 0 in
    let words : List ℕ = set t.words slot (max n number) in
    let wide = h.wide in
    let near = s.2 in
    let within : slot < length t.words = omega arith in
    let moved : number_at t' k ≡ get_or words k 0 = ap (λ (u : Table). number_at u k) s.5 in
    let here : get_or words slot 0 ≡ max n number = get_or-set_same t.words slot (max n number) 0 within in
    let knows = h.knows seat s.0 s.1 in
    let found = knows.found in
    let next = s.4 in
    let below : s.0.known ≤ n = subst (λ (i : ℕ). s.0.known ≤ get_or t.words i 0) s.3 (h.known seat s.0 s.1) in
    dite (ℕ_discrete k slot)
    (λ same. let before : get_or t.words k 0 ≡ n = ap (λ (i : ℕ). get_or t.words i 0) same in
    let after : number_at t' k ≡ max n number = moved ∙ ap (λ (i : ℕ). get_or words i 0) same ∙ here in
    dite (dec_le number n)
    (λ under. inl (omega arith))
    (λ over. let one : number ≡ get_or t.words k 0 + 1 = omega arith in
    inr (omega arith, seat, ap (λ (i : ℕ). raises seat i number) (sym same) ∙ ap (λ (i : ℕ). raises seat k i) one)))
    (λ other. inl (moved ∙ get_or-set_other t.words slot k (max n number) 0 other))

stays_or_rises : (slots start : ℕ) (t : Table) (kind : NumberStepKind) (t' : Table) → NumbersShown slots start t → NumberStep slots t kind t' → (k : ℕ) → StaysOrRises t kind t' k
stays_or_rises slots start t (loads seat slot) t' h s k = inl (ap (λ (u : Table). number_at u k) s.3 ∙ ap (λ (l : List ℕ). get_or l k 0) (set-get_or t.words slot 0))
stays_or_rises slots start t (raises seat slot number) t' h s k = raise_stays_or_rises slots start t seat slot number t' h s k
stays_or_rises slots start t (doubles seat) t' h s k = inl (ap (λ (u : Table). number_at u k) s.2)

pub never_goes_back : NeverGoesBack
never_goes_back slots start t [] t' h run k = subst (λ (u : Table). number_at t k ≤ number_at u k) (sym run) (omega arith)
never_goes_back slots start t (kind ∷ kinds) t' h run k =
    let first : number_at t k ≤ number_at run.0 k = ⊎_elim (λ x. omega arith) (λ x. let rise = x.0 in omega arith) (stays_or_rises slots start t kind run.0 h run.1 k) in
    let later = never_goes_back slots start run.0 kinds t' (step_keeps slots start t kind run.0 h run.1) run.2 k in
    omega arith

-- a raise among the later steps is a raise of the whole run
later_too : (kind : NumberStepKind) (kinds : List NumberStepKind) (slot number : ℕ) → (seat : ℕ) × Contains kinds (raises seat slot number) → (seat : ℕ) × Contains (kind ∷ kinds) (raises seat slot number)
later_too kind kinds slot number r = let at = r.1 in let near = at.1 in (r.0, (suc at.0, omega arith, at.2))

pub none_skipped : NoneSkipped
none_skipped slots start t [] t' h run k number above below = let same : number_at t' k ≡ number_at t k = ap (λ (u : Table). number_at u k) run in absurd (omega arith)
none_skipped slots start t (kind ∷ kinds) t' h run k number above below =
    let kept = step_keeps slots start t kind run.0 h run.1 in
    ⊎_elim
    (λ x. later_too kind kinds k number (none_skipped slots start run.0 kinds t' kept run.2 k number (omega arith) below))
    (λ x. let rise = x.0 in dite (dec_le number (number_at run.0 k))
    (λ reached. let is : number_at t k + 1 ≡ number = omega arith in
    (x.1, (0, omega arith, x.2 ∙ ap (λ (i : ℕ). raises x.1 k i) is)))
    (λ over. later_too kind kinds k number (none_skipped slots start run.0 kinds t' kept run.2 k number (omega arith) below)))
    (stays_or_rises slots start t kind run.0 h run.1 k)
