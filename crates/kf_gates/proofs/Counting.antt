-- Sums over all seats, before and after a step of one seat.
use Rattle.std.proofs.Common.{◌≡◌, ℕ, zero, suc, ◌+◌, ◌<◌, ◌≤◌, Bool, true, false, List, [], ◌∷◌, ◌++◌, length, set, refl, sym, ap, arith}
use mathlib.Core.Option.{some, some-injective, some-ne-none}
use lib.ListN.{get_elem?}
use Rattle.kf_gates.specs.declared.view.GateView.{GateView}
use Rattle.kf_gates.specs.declared.view.GateView.TheVariants.{Keeps, Outside, Looked, Full, Left, Counted, OneTooMany, Knocking, Inside, Turned, Broken, Restored}
use Rattle.kf_gates.specs.Rule.{IsPass, bit, counted_by, due_from, is_user, total, users}

-- the sum after one seat's view changes
pub total_set : (f : GateView → ℕ) (views : List GateView) (j : ℕ) (v w : GateView) → get_elem? views j ≡ some v → total f (set views j w) + f v ≡ total f views + f w
total_set f [] j v w e = absurd (some-ne-none v (sym e))
total_set f (x ∷ xs) zero v w e = let same : f x ≡ f v = ap f (some-injective x v e) in omega arith
total_set f (x ∷ xs) (suc j) v w e = let more = total_set f xs j v w e in omega arith

-- the sum after a new seat is made
pub total_snoc : (f : GateView → ℕ) (views : List GateView) (w : GateView) → total f (views ++ w ∷ []) ≡ total f views + f w
total_snoc f [] w = omega arith
total_snoc f (x ∷ xs) w = let more = total_snoc f xs w in omega arith

-- no seat counts for more than the sum
pub total_at : (f : GateView → ℕ) (views : List GateView) (j : ℕ) (v : GateView) → get_elem? views j ≡ some v → f v ≤ total f views
total_at f [] j v e = absurd (some-ne-none v (sym e))
total_at f (x ∷ xs) zero v e = let same : f x ≡ f v = ap f (some-injective x v e) in omega arith
total_at f (x ∷ xs) (suc j) v e = let more = total_at f xs j v e in omega arith

pub total_few : (f : GateView → ℕ) → ((v : GateView) → f v ≤ 1) → (views : List GateView) → total f views ≤ length views
total_few f one [] = omega arith
total_few f one (x ∷ xs) = let more = total_few f one xs in let here = one x in omega arith

pub total_below : (f g : GateView → ℕ) → ((v : GateView) → f v ≤ g v) → (views : List GateView) → total f views ≤ total g views
total_below f g below [] = omega arith
total_below f g below (x ∷ xs) = let more = total_below f g below xs in let here = below x in omega arith

pub there : (views : List GateView) (j : ℕ) (v : GateView) → get_elem? views j ≡ some v → j < length views
there [] j v e = absurd (some-ne-none v (sym e))
there (x ∷ xs) zero v e = omega arith
there (x ∷ xs) (suc j) v e = let more = there xs j v e in omega arith

pub bit_few : (b : Bool) → bit b ≤ 1
bit_few true = omega arith
bit_few false = omega arith

pub bit_none : (b : Bool) → bit b ≡ 0 → b ≡ false
bit_none true e = absurd (omega arith)
bit_none false e = refl

pub users_few : (lane : ℕ) (views : List GateView) → users lane views ≤ length views
users_few lane views = total_few (λ v. bit (is_user lane v)) (λ v. bit_few (is_user lane v)) views

pub counted_few : (v : GateView) → counted_by v ≤ 1
counted_few (Keeps p n) = bit_few p.spare
counted_few Outside = omega arith
counted_few (Looked f) = omega arith
counted_few (Full f) = omega arith
counted_few (Left f) = omega arith
counted_few Counted = omega arith
counted_few (OneTooMany f) = omega arith
counted_few (Knocking k) = omega arith
counted_few (Inside k n) = omega arith
counted_few (Turned k f) = omega arith
counted_few (Broken k n) = omega arith
counted_few (Restored k n) = omega arith

pub due_counted : (v : GateView) → due_from v ≤ counted_by v
due_counted (Keeps p n) = omega arith
due_counted Outside = omega arith
due_counted (Looked f) = omega arith
due_counted (Full f) = omega arith
due_counted (Left f) = omega arith
due_counted Counted = omega arith
due_counted (OneTooMany f) = omega arith
due_counted (Knocking k) = omega arith
due_counted (Inside k n) = omega arith
due_counted (Turned k f) = omega arith
due_counted (Broken k n) = omega arith
due_counted (Restored k n) = omega arith

-- a pass counts in no lane, and has no pass counted or due
pub pass_nowhere : (v : GateView) → IsPass v → (lane : ℕ) → is_user lane v ≡ false
pass_nowhere (Keeps p n) pass lane = absurd pass
pass_nowhere Outside pass lane = refl
pass_nowhere (Looked f) pass lane = refl
pass_nowhere (Full f) pass lane = refl
pass_nowhere (Left f) pass lane = refl
pass_nowhere Counted pass lane = absurd pass
pass_nowhere (OneTooMany f) pass lane = absurd pass
pass_nowhere (Knocking k) pass lane = absurd pass
pass_nowhere (Inside k n) pass lane = absurd pass
pass_nowhere (Turned k f) pass lane = absurd pass
pass_nowhere (Broken k n) pass lane = absurd pass
pass_nowhere (Restored k n) pass lane = absurd pass

pub pass_counts : (v : GateView) → IsPass v → (counted_by v ≡ 0) × (due_from v ≡ 0)
pass_counts (Keeps p n) pass = absurd pass
pass_counts Outside pass = (refl, refl)
pass_counts (Looked f) pass = (refl, refl)
pass_counts (Full f) pass = (refl, refl)
pass_counts (Left f) pass = (refl, refl)
pass_counts Counted pass = absurd pass
pass_counts (OneTooMany f) pass = absurd pass
pass_counts (Knocking k) pass = absurd pass
pass_counts (Inside k n) pass = absurd pass
pass_counts (Turned k f) pass = absurd pass
pass_counts (Broken k n) pass = absurd pass
pass_counts (Restored k n) pass = absurd pass
