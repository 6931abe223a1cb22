-- Each step keeps the rule that ties the words to the views, and the opening meets that rule.
use Rattle.std.proofs.Common.{◌≡◌, ℕ, zero, suc, ◌+◌, ◌<◌, ◌≤◌, List, [], ◌∷◌, ◌++◌, length, length-set, set, get_or, replicate, refl, sym, ap, subst, arith, get_or-set_same, get_or-set_other, ⊎_elim}
use Rattle.std.specs.Prelude.{max}
use Rattle.std.proofs.lemmas.List.{set-get_or}
use mathlib.Core.Logic.{dite}
use mathlib.Core.Option.{some, some-injective, some-ne-none}
use native.Mathlib.Decide.{ℕ_discrete}
use lib.ListN.{get_elem?}
use Rattle.atomic_table.specs.Table.{stepped, keeps, opening}
use Rattle.atomic_table.proofs.Lists.{at_set, at_snoc, set_again}
use Rattle.kf_notify.specs.declared.view.NumberView.{NumberView}
use Rattle.kf_notify.specs.Rule.{Table, NumbersShown, KnowsNext, IsSeated, number_at, opened}
use Rattle.kf_notify.specs.Steps.{loaded, raised, doubled}

-- what is true of a seat's new view and of all other views is true of all views after the seat's step
each_after : (views : List NumberView) (seat : ℕ) (w : NumberView) (P : NumberView → Type 0) → P w → ((j : ℕ) (s : NumberView) → get_elem? views j ≡ some s → P s)
    → (j : ℕ) (s : NumberView) → get_elem? (set views seat w) j ≡ some s → P s
each_after views seat w P own others j s e = ⊎_elim (λ x. subst P x.1 own) (λ x. others j s x.1) (at_set views seat j w s e)

-- the place of a seat is within the list of views
pub seat_within : {A : Type 0} (views : List A) (seat : ℕ) (v : A) → get_elem? views seat ≡ some v → seat < length views
seat_within [] seat v e = absurd (some-ne-none v (sym e))
seat_within (x ∷ xs) zero v e = omega arith
seat_within (x ∷ xs) (suc seat) v e = let r = seat_within xs seat v e in omega arith

-- a load keeps the rule
pub load_keeps : (slots start : ℕ) (t : Table) (seat : ℕ) (v : NumberView) (slot : ℕ) → NumbersShown slots start t → IsSeated t seat v → slot < slots
    → NumbersShown slots start (stepped t slot (number_at t slot) seat [] (loaded slot (number_at t slot) v) keeps)
load_keeps slots start t seat v slot h at near =
    let n : ℕ = get_or t.words slot 0 in
    let w : NumberView = loaded slot n v in
    let same : set t.words slot n ≡ t.words = set-get_or t.words slot 0 in
    let kept : NumbersShown slots start (record { words = t.words; homes = t.homes; views = set t.views seat w }) = record {
      wide = h.wide;
      first = each_after t.views seat w (λ y. y.start ≡ start) (h.first seat v at) h.first;
      knows = each_after t.views seat w (λ y. KnowsNext y) (record { found = omega arith; next = omega arith }) h.knows;
      known = each_after t.views seat w (λ y. y.known ≤ get_or t.words y.slot 0) (omega arith) h.known;
      least = h.least;
    } in
    subst (λ (l : List ℕ). NumbersShown slots start (record { words = l; homes = t.homes; views = set t.views seat w })) (sym same) kept

-- a raise makes no word smaller
pub grown : (words : List ℕ) (i number k : ℕ) → i < length words → (get_or words k 0 ≤ get_or (set words i (max (get_or words i 0) number)) k 0)
grown words i number k near = dite (ℕ_discrete k i)
    (λ same. subst (λ (x : ℕ). get_or words x 0 ≤ get_or (set words i (max (get_or words i 0) number)) x 0) (sym same) (let w = get_or-set_same words i (max (get_or words i 0) number) 0 near in omega arith))
    (λ other. let w = get_or-set_other words i k (max (get_or words i 0) number) 0 other in omega arith)

-- a raise keeps the rule
pub raise_keeps : (slots start : ℕ) (t : Table) (seat : ℕ) (v : NumberView) (number : ℕ) → NumbersShown slots start t → IsSeated t seat v → v.slot < slots → number ≡ v.found + 1
    → NumbersShown slots start (stepped t v.slot (max (number_at t v.slot) number) seat [] (raised number v) keeps)
raise_keeps slots start t seat v number h at near next =
    let i : ℕ = v.slot in
    let n : ℕ = get_or t.words i 0 in
    let w : NumberView = raised number v in
    let words : List ℕ = set t.words i (max n number) in
    let wide = h.wide in
    let within : i < length t.words = omega arith in
    let here : get_or words i 0 ≡ max n number = get_or-set_same t.words i (max n number) 0 within in
    let long : length words ≡ length t.words = length-set t.words i (max n number) in
    record {
      wide = omega arith;
      first = each_after t.views seat w (λ y. y.start ≡ start) (h.first seat v at) h.first;
      knows = each_after t.views seat w (λ y. KnowsNext y) (record { found = omega arith; next = omega arith }) h.knows;
      known = each_after t.views seat w (λ y. y.known ≤ get_or words y.slot 0) (omega arith)
          (λ j s e. let a = h.known j s e in let b = grown t.words i number s.slot within in omega arith);
      least = λ k below. let a = h.least k below in let b = grown t.words i number k within in omega arith;
    }

-- doubling a seat keeps the rule
pub double_keeps : (slots start seat : ℕ) (v : NumberView) (t : Table) → NumbersShown slots start t → IsSeated t seat v
    → NumbersShown slots start (record { words = t.words; homes = t.homes; views = set t.views seat v ++ doubled v ∷ [] })
double_keeps slots start seat v t h at =
    let same : set t.views seat v ≡ t.views = set_again t.views seat v at in
    let old = h.knows seat v at in
    let old_found = old.found in
    let old_next = old.next in
    let kept : NumbersShown slots start (record { words = t.words; homes = t.homes; views = t.views ++ doubled v ∷ [] }) = record {
      wide = h.wide;
      first = λ j s e. ⊎_elim (λ x. h.first j s x) (λ x. subst (λ (y : NumberView). y.start ≡ start) x (h.first seat v at)) (at_snoc t.views (doubled v) s j e);
      knows = λ j s e. ⊎_elim (λ x. h.knows j s x) (λ x. subst (λ (y : NumberView). KnowsNext y) x (record { found = old_found; next = old_next })) (at_snoc t.views (doubled v) s j e);
      known = λ j s e. ⊎_elim (λ x. h.known j s x) (λ x. subst (λ (y : NumberView). y.known ≤ get_or t.words y.slot 0) x (h.known seat v at)) (at_snoc t.views (doubled v) s j e);
      least = h.least;
    } in
    subst (λ (l : List NumberView). NumbersShown slots start (record { words = t.words; homes = t.homes; views = l ++ doubled v ∷ [] })) (sym same) kept

-- the opening has only one seat
first_only : (v s : NumberView) (j : ℕ) → get_elem? (v ∷ []) j ≡ some s → v ≡ s
first_only v s zero e = some-injective v s e
first_only v s (suc j) e = absurd (some-ne-none s (sym e))

pub replicated : (n k x : ℕ) → k < n → get_or (replicate n x) k 0 ≡ x
replicated zero k x h = absurd (omega arith)
replicated (suc n) zero x h = refl
replicated (suc n) (suc k) x h = replicated n k x (omega arith)

length-replicate : (n x : ℕ) → length (replicate n x) ≡ n
length-replicate zero x = refl
length-replicate (suc n) x = ap suc (length-replicate n x)

-- the opening meets the rule
pub opening_shown : (slots words start : ℕ) → slots ≤ words → NumbersShown slots start (opening (replicate words start) [] (opened start))
opening_shown slots words start enough = record {
  wide = let long = length-replicate words start in omega arith;
  first = λ j s e. subst (λ (y : NumberView). y.start ≡ start) (first_only (opened start) s j e) refl;
  knows = λ j s e. subst (λ (y : NumberView). KnowsNext y) (first_only (opened start) s j e) (record { found = omega arith; next = omega arith });
  known = λ j s e. subst (λ (y : NumberView). y.known ≤ get_or (replicate words start) y.slot 0) (first_only (opened start) s j e) (omega arith);
  least = λ k below. let a = replicated words k start (omega arith) in omega arith;
}
