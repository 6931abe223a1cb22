-- What a wait does: it looks and rests, and looks again.
use Rattle.std.proofs.Common.{◌≡◌, ◌≢◌, ℕ, zero, suc, ◌+◌, Bool, refl, ap, subst, sym, ◌∙◌, arith}
use Rattle.kf_words.specs.declared.view.CallerView.{CallerView}
use Rattle.kf_words.specs.Callers.{CallerSight}
use Rattle.kf_words.specs.Layout.{is_drained}
use Rattle.kf_words.specs.Steps.{after_look}
use Rattle.kf_words.specs.TableSteps.{StepKind}
use Rattle.kf_words.specs.Made.{WasMade, WereMade, LookedAndRested, Rested, Waited}
use Rattle.kf_words.specs.Another.{WereOutrun}
use Rattle.kf_words.proofs.Made.{either_found}

-- any number of looks, with a rest after each
abbrev pub SoFar : (ℕ → StepKind) → (ℕ → Bool) → CallerSight → CallerSight → Type 0
SoFar kind is_counted before after = (count : ℕ) × LookedAndRested kind is_counted count before after

-- one more look, which found this word, and one more rest
pub one_more : (kind : ℕ → StepKind) (is_counted : ℕ → Bool) (found : ℕ) (before rested looked after : CallerSight)
    → SoFar kind is_counted before rested → WasMade kind rested looked → looked.view.found ≡ found
    → Rested (is_counted found) looked after → SoFar kind is_counted before after
one_more kind is_counted found before rested looked after so_far step its rest =
    (suc so_far.0, (rested, looked, so_far.1, step, subst (λ (n : ℕ). Rested (is_counted n) looked after) (sym its) rest))

-- the word that a look found is in the view after it
pub found_by_look : (found : ℕ) (before after : CallerView) → after ≡ after_look found before → after.found ≡ found
found_by_look found before after e = ap (λ (c : CallerView). c.found) e ∙ either_found (is_drained found) _ _ found refl refl

-- the last look ends the wait, whose start and end may be given by sights that are equal to these
pub since : (kind : ℕ → StepKind) (is_counted : ℕ → Bool) (start first rested last end : CallerSight) → first ≡ start → end ≡ last
    → SoFar kind is_counted first rested → WasMade kind rested last → Waited kind is_counted start end
since kind is_counted start first rested last end is_start is_end so_far step =
    subst (λ x. Waited kind is_counted x end) is_start
    (subst (λ x. Waited kind is_counted first x) (sym is_end) (so_far.0, rested, so_far.1, step))

-- if a seat was outrun over these steps, it made them, as WereMade says
pub outrun_missed : (kind : ℕ → StepKind) (count : ℕ) (before after : CallerSight) → WereOutrun kind count before after → WereMade kind count before after
outrun_missed kind zero before after same = same
outrun_missed kind (suc count) before after so_far = (so_far.0, outrun_missed kind count before so_far.0 so_far.1, so_far.2)

-- one more such step, which found another word than was guessed
pub outrun_more : (kind : ℕ → StepKind) (count guess found : ℕ) (before between after : CallerSight) → WereOutrun kind count before between → WasMade kind between after
    → (count ≢ 0 → guess ≡ between.view.found) → (found ≡ after.view.found) × (found ≢ guess) → WereOutrun kind (count + 1) before after
outrun_more kind count guess found before between after so_far made near other =
    let one : suc count ≡ count + 1 = omega arith in
    subst (λ (n : ℕ). WereOutrun kind n before after) one (between, so_far, made, λ some e. other.1 (other.0 ∙ e ∙ sym (near some)))
