-- Gates are shut and closed one after another.
use Rattle.std.proofs.Common.{◌≡◌, ℕ, zero, suc, ◌+◌, ◌<◌, true, List, [], ◌∷◌, ◌++◌, length, set, get_or, refl, sym, ap, ◌∙◌, subst, arith}
use Rattle.std.specs.Prelude.{map}
use Rattle.std.proofs.lemmas.List.{append_assoc}
use Rattle.kf_core.specs.Phases.{has_reference}
use Rattle.kf_words.specs.Callers.{Handle}
use Rattle.kf_gates.specs.States.{KeeperState, ClosedState, KeepsOn, Opening, opening_of, last_opening}
use Rattle.kf_hot.specs.Gated.{AreShut, HaveReference, kept_by, last_openings, openings}

-- replacing an item by one with the same image leaves the images as they were
pub same_images : {A B : Type 0} (f : A → B) (xs : List A) (i : ℕ) (d w : A) → i < length xs → f w ≡ f (get_or xs i d) → map f (set xs i w) ≡ map f xs
same_images f [] i d w inside e = absurd (omega (arith, inside))
same_images f (x ∷ xs) zero d w inside e = ap (λ b. b ∷ map f xs) e
same_images f (x ∷ xs) (suc i) d w inside e = ap (λ bs. f x ∷ bs) (same_images f xs i d w (omega (arith, inside)) e)

-- one more gate of a list is shut
pub next_shut : (gates : List (KeeperState Handle)) (i : ℕ) (gate : KeeperState Handle) → i < length gates → gate.plan.shut ≡ true
    → ((k : ℕ) (d : KeeperState Handle) → k < i → (get_or gates k d).plan.shut ≡ true) → (k : ℕ) (d : KeeperState Handle) → k < i + 1 → (get_or (set gates i gate) k d).plan.shut ≡ true
next_shut [] i gate inside shut before k d less = absurd (omega (arith, inside))
next_shut (g ∷ gates) zero gate inside shut before zero d less = shut
next_shut (g ∷ gates) zero gate inside shut before (suc k) d less = absurd (omega (arith, less))
next_shut (g ∷ gates) (suc i) gate inside shut before zero d less = before zero d (omega arith)
next_shut (g ∷ gates) (suc i) gate inside shut before (suc k) d less = next_shut gates i gate (omega (arith, inside)) shut (λ j e l. before (suc j) e (omega (arith, l))) k d (omega (arith, less))

pub same_opening : (old new : KeeperState Handle) → KeepsOn old new → opening_of new ≡ opening_of old
same_opening old new h = λ i. record { seat = h.seat i; number = h.number i }

pub closed_opening : (closed : ClosedState) (gate : KeeperState Handle) → closed.seat ≡ gate.seat → closed.plan.number ≡ gate.plan.number → last_opening closed ≡ opening_of gate
closed_opening closed gate seat number = λ i. record { seat = seat i; number = number i }

-- if all gates of a list are shut and their calls have references, so it is for the first and for the others
pub first_shut : (items rest : List (KeeperState Handle)) (gate : KeeperState Handle) → items ≡ gate ∷ rest → AreShut items → gate.plan.shut ≡ true
first_shut items rest gate e h = subst AreShut e h 0 gate (omega arith)

pub others_shut : (items rest : List (KeeperState Handle)) (gate : KeeperState Handle) → items ≡ gate ∷ rest → AreShut items → AreShut rest
others_shut items rest gate e h i d l = subst AreShut e h (suc i) d (omega (arith, l))

pub first_kept : (items rest : List (KeeperState Handle)) (gate : KeeperState Handle) → items ≡ gate ∷ rest → HaveReference (kept_by items) → has_reference gate.kept.phase ≡ true
first_kept items rest gate e h = subst (λ l. HaveReference (kept_by l)) e h 0 gate.kept (omega arith)

pub others_kept : (items rest : List (KeeperState Handle)) (gate : KeeperState Handle) → items ≡ gate ∷ rest → HaveReference (kept_by items) → HaveReference (kept_by rest)
others_kept items rest gate e h i d l = subst (λ x. HaveReference (kept_by x)) e h (suc i) d (omega (arith, l))

last_openings_more : (xs ys : List ClosedState) → last_openings (xs ++ ys) ≡ last_openings xs ++ last_openings ys
last_openings_more [] ys = refl
last_openings_more (x ∷ xs) ys = ap (λ os. last_opening x ∷ os) (last_openings_more xs ys)

-- one more gate is closed
pub next_closed : (closed new : List ClosedState) (shut : ClosedState) (items rest : List (KeeperState Handle)) (gate : KeeperState Handle) (all : List Opening) → items ≡ gate ∷ rest → new ≡ closed ++ shut ∷ []
    → last_opening shut ≡ opening_of gate → last_openings closed ++ openings items ≡ all → last_openings new ++ openings rest ≡ all
next_closed closed new shut items rest gate all e n same h =
    ap (λ xs. last_openings xs ++ openings rest) n ∙ ap (λ xs. xs ++ openings rest) (last_openings_more closed (shut ∷ [])) ∙ append_assoc (last_openings closed) (last_opening shut ∷ []) (openings rest)
    ∙ ap (λ x. last_openings closed ++ x ∷ openings rest) same ∙ sym (ap (λ xs. last_openings closed ++ openings xs) e) ∙ h
