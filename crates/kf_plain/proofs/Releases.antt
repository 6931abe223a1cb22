-- The callers at the end of the list release their keys, one after another.
use Rattle.std.proofs.Common.{◌≡◌, ℕ, ◌+◌, ◌<◌, ap, arith, ◌∙◌, length, take, drop, slice_set}
use Rattle.std.specs.Prelude.{Some, slice_get, slice_index_or, IsTrue, All}
use Rattle.std.proofs.lemmas.List.{length-take-le, length-drop}
use Rattle.kf_core.specs.declared.caller.Caller.{Caller}
use Rattle.kf_core.specs.declared.event.Event.TheVariants.{Release}
use Rattle.kf_core.specs.Phases.{may_release}
use Rattle.kf_world.specs.Bounded.{BoundedWorld, Happens, May}
use Rattle.kf_plain.specs.Removals.{released, with_callers}
use Rattle.kf_plain.proofs.Rows.{partly, partly_at, partly_more}
use Rattle.kf_plain.proofs.CallerSteps.{caller_released, caller_may_release}

module _ (w0 w : BoundedWorld) (first i : ℕ) (d : Caller)
    (is : w ≡ with_callers w0 (partly released (take first w0.world.callers) (drop first w0.world.callers) i)) (within : first + i < length w0.world.callers) where
  in_row : i < length (drop first w0.world.callers)
  in_row = (let e = length-drop first w0.world.callers in omega (arith, e, within))

  front_length : length (take first w0.world.callers) + i ≡ first + i
  front_length = ap (λ n. n + i) (length-take-le first w0.world.callers (omega (arith, within)))

  there : slice_get w.world.callers (first + i) ≡ Some (slice_index_or (drop first w0.world.callers) i d)
  there = ap (λ (v : BoundedWorld). slice_get v.world.callers (first + i)) is ∙ partly_at released (take first w0.world.callers) (drop first w0.world.callers) i (first + i) d in_row front_length

  pub may_release_next : All (λ c. IsTrue (may_release c.phase)) (drop first w0.world.callers) → May w (Release (first + i))
  may_release_next held = caller_may_release w (first + i) (slice_index_or (drop first w0.world.callers) i d) there (held i d in_row)

  pub released_next : (w' : BoundedWorld) → Happens w (Release (first + i)) w' → w' ≡ with_callers w0 (partly released (take first w0.world.callers) (drop first w0.world.callers) (i + 1))
  released_next w' h =
      caller_released w w' (first + i) (slice_index_or (drop first w0.world.callers) i d) there h
      ∙ ap (λ (v : BoundedWorld). with_callers v (slice_set v.world.callers (first + i) (released (slice_index_or (drop first w0.world.callers) i d)))) is
      ∙ ap (with_callers w0) (partly_more released (take first w0.world.callers) (drop first w0.world.callers) i (first + i) d in_row front_length)
