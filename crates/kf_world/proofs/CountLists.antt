-- The list of the slots' counts: the counts of a slot that a caller holds are in the part that was written.
use Rattle.std.proofs.Common.{ℕ, zero, suc, ◌<◌, ◌≤◌, List, [], ◌∷◌, ◌++◌, length, replicate, sym, subst, arith}
use Rattle.std.proofs.lemmas.Option.{none-some, same_Some}
use Rattle.kf_world.specs.declared.counts.Counts.{Counts}
use Rattle.kf_world.specs.Counts.{IsHeldIn, no_counts}

-- the counts of a slot that a caller holds were written
pub held_written : (xs : List Counts) (n slot : ℕ) → IsHeldIn (xs ++ replicate n no_counts) slot → slot < length xs
held_written [] zero slot held = absurd (none-some _ held.1)
held_written [] (suc n) zero held =
    let none : 1 ≤ 0 = subst (λ (c : Counts). 1 ≤ c.holds) (sym (same_Some _ _ held.1)) held.2 in omega arith
held_written [] (suc n) (suc slot) held = let i : slot < 0 = held_written [] n slot held in omega arith
held_written (x ∷ xs) n zero held = omega arith
held_written (x ∷ xs) n (suc slot) held = let i : slot < length xs = held_written xs n slot held in omega arith
