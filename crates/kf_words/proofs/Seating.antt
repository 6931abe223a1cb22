-- Seats in the list of views, and the number of users when one caller's view changes.
use Rattle.std.proofs.Common.{◌≡◌, ℕ, zero, suc, ◌+◌, ◌≤◌, Bool, true, false, List, [], ◌∷◌, ◌++◌, map, set, refl, sym, ap, ◌∙◌, subst, arith}
use Rattle.std.specs.Prelude.{slice_get, Some, None}
use mathlib.Core.Option.{some, some-ne-none, some-injective}
use mathlib.Core.List.{map-append}
use lib.ListN.{get_elem?}
use lib.Seq.{map-set}
use Rattle.kf_core.specs.declared.caller.Caller.{Caller}
use Rattle.kf_words.specs.declared.view.CallerView.{CallerView}
use Rattle.kf_words.specs.declared.view.MasterView.{MasterView}
use Rattle.kf_words.specs.declared.view.View.TheVariants as seat
use Rattle.kf_words.specs.Layout.{bit}
use Rattle.kf_words.specs.Rule.{tally, caller, seats}

pub map_at : {A B : Type 0} (f : A → B) (l : List A) (i : ℕ) (b : B) → get_elem? (map f l) i ≡ some b → (a : A) × (get_elem? l i ≡ some a) × (f a ≡ b)
map_at f [] i b e = absurd (some-ne-none b (sym e))
map_at f (x ∷ xs) zero b e = (x, refl, some-injective (f x) b e)
map_at f (x ∷ xs) (suc i) b e = map_at f xs i b e

-- the seat of a caller is not the first, and its view is one of the callers' views
pub caller_seat : (m : MasterView) (cs : List CallerView) (id : ℕ) (c : CallerView) → get_elem? (seats m cs) id ≡ some (seat.Caller c) → (j : ℕ) × (id ≡ suc j) × (get_elem? cs j ≡ some c)
caller_seat m cs zero c e = absurd (let is : seat.Master m ≡ seat.Caller c = some-injective _ _ e in cc)
caller_seat m cs (suc j) c e =
    let x = map_at seat.Caller cs j (seat.Caller c) e in
    let same : seat.Caller x.0 ≡ seat.Caller c = x.2 in
    let is : x.0 ≡ c = cc in
    (j, refl, subst (λ (y : CallerView). get_elem? cs j ≡ some y) is x.1)

-- the seat of the Master is the first
pub master_seat : (m n : MasterView) (cs : List CallerView) (id : ℕ) → get_elem? (seats m cs) id ≡ some (seat.Master n) → (id ≡ 0) × (m ≡ n)
master_seat m n cs zero e = (refl, let is : seat.Master m ≡ seat.Master n = some-injective _ _ e in cc)
master_seat m n cs (suc j) e =
    let x = map_at seat.Caller cs j (seat.Master n) e in
    absurd (let is : seat.Caller x.0 ≡ seat.Master n = x.2 in cc)

pub seats-set : (m : MasterView) (cs : List CallerView) (j : ℕ) (c : CallerView) → set (seats m cs) (suc j) (seat.Caller c) ≡ seats m (set cs j c)
seats-set m cs j c = ap (λ l. seat.Master m ∷ l) (sym (map-set seat.Caller cs j c))

pub seats-push : (m : MasterView) (cs : List CallerView) (c : CallerView) → seats m cs ++ seat.Caller c ∷ [] ≡ seats m (cs ++ c ∷ [])
seats-push m cs c = ap (λ l. seat.Master m ∷ l) (sym (map-append seat.Caller cs (c ∷ [])))

-- caller j of the world is the one that view j describes
pub caller_at : (cs : List CallerView) (j : ℕ) (c : CallerView) → get_elem? cs j ≡ some c → slice_get (map caller cs) j ≡ Some (caller c)
caller_at [] j c e = absurd (some-ne-none c (sym e))
caller_at (x ∷ xs) zero c e = ap (λ (y : CallerView). Some (caller y)) (some-injective x c e)
caller_at (x ∷ xs) (suc j) c e = caller_at xs j c e

pub at_caller : (cs : List CallerView) (j : ℕ) (x : Caller) → slice_get (map caller cs) j ≡ Some x → (c : CallerView) × (get_elem? cs j ≡ some c) × (caller c ≡ x)
at_caller [] j x e = absurd (let y : None ≡ Some x = e in cc)
at_caller (c ∷ cs) zero x e = (c, refl, let y : Some (caller c) ≡ Some x = e in cc)
at_caller (c ∷ cs) (suc j) x e = at_caller cs j x e

-- if one view changes, the count changes by that caller
pub tally-set : (p : CallerView → Bool) (cs : List CallerView) (j : ℕ) (c c' : CallerView) → get_elem? cs j ≡ some c → tally p (set cs j c') + bit (p c) 1 ≡ tally p cs + bit (p c') 1
tally-set p [] j c c' e = absurd (some-ne-none c (sym e))
tally-set p (x ∷ xs) zero c c' e = let is : bit (p x) 1 ≡ bit (p c) 1 = ap (λ (y : CallerView). bit (p y) 1) (some-injective x c e) in omega arith
tally-set p (x ∷ xs) (suc j) c c' e = let r = tally-set p xs j c c' e in omega arith

pub tally-push : (p : CallerView → Bool) (cs : List CallerView) (c : CallerView) → tally p (cs ++ c ∷ []) ≡ tally p cs + bit (p c) 1
tally-push p [] c = omega arith
tally-push p (x ∷ xs) c = let r = tally-push p xs c in omega arith

pub tally-one : (p : CallerView → Bool) (cs : List CallerView) (j : ℕ) (c : CallerView) → get_elem? cs j ≡ some c → p c ≡ true → 1 ≤ tally p cs
tally-one p [] j c e h = absurd (some-ne-none c (sym e))
tally-one p (x ∷ xs) zero c e h = let is : bit (p x) 1 ≡ 1 = ap (λ (b : Bool). bit b 1) (ap p (some-injective x c e) ∙ h) in omega arith
tally-one p (x ∷ xs) (suc j) c e h = let r = tally-one p xs j c e h in omega arith

-- if the count is not 0, some caller passes the test
pub tally-some : (p : CallerView → Bool) (cs : List CallerView) → 1 ≤ tally p cs → (j : ℕ) × (c : CallerView) × (get_elem? cs j ≡ some c) × (p c ≡ true)
tally-some p [] h = absurd (omega arith)
tally-some p (x ∷ xs) h = elim (p x) as (λ b. p x ≡ b → (j : ℕ) × (c : CallerView) × (get_elem? (x ∷ xs) j ≡ some c) × (p c ≡ true)) [
  | true ↦ λ e. (0, x, refl, e)
  | false ↦ λ e. (let is : bit (p x) 1 ≡ 0 = ap (λ (b : Bool). bit b 1) e in
      let r = tally-some p xs (omega arith) in (suc r.0, r.1, r.2, r.3))
] refl

-- if every caller that passes p passes q, the count for p is at most that for q
pub tally≤ : (p q : CallerView → Bool) (cs : List CallerView) → ((j : ℕ) (c : CallerView) → get_elem? cs j ≡ some c → p c ≡ true → q c ≡ true) → tally p cs ≤ tally q cs
tally≤ p q [] h = omega arith
tally≤ p q (x ∷ xs) h = let r = tally≤ p q xs (λ j c e. h (suc j) c e) in let one = bit-le (p x) (q x) (h zero x refl) in omega arith
  where
    bit-le : (a b : Bool) → (a ≡ true → b ≡ true) → bit a 1 ≤ bit b 1
    bit-le true true h = omega arith
    bit-le true false h = absurd (let e : false ≡ true = h refl in cc)
    bit-le false b h = omega arith
