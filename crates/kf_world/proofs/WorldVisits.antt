-- Tries for a reference in the world of a single caller, the ends of calls, and whole visits.
use Rattle.std.proofs.Common.{◌≡◌, ℕ, zero, suc, List, [], ◌∷◌, refl, ap, sym, subst, ◌∙◌, Bool, true, false}
use Rattle.std.specs.Prelude.{slice_set, Some, None, IsTrue, IsFalse, if◌then◌else◌}
use Rattle.std.proofs.lemmas.Option.{slice_get_within}
use Rattle.kf_core.specs.declared.key.Key.{Key}
use Rattle.kf_core.specs.declared.caller.Phase.{Phase}
use Rattle.kf_core.specs.declared.caller.Phase.TheVariants.{Still, Turned, Running}
use Rattle.kf_core.specs.declared.event.Event.TheVariants.{Enter, Leave}
use Rattle.kf_core.specs.Bare.{BareWorld, IsCaller, is_live}
use Rattle.kf_core.specs.Phases.{is_waiting, has_reference}
use Rattle.kf_core.specs.Steps.{with_phase}
use Rattle.kf_world.specs.Bounded.{BoundedWorld, bounded, Happens, May}
use Rattle.kf_core.specs.Calls.{CallView, GivenBack, Visit, unvisited, tried, Visits}
use Rattle.kf_world.specs.WorldGuard.{HasEntered, HasTurned, VisitsAlone}
use Rattle.kf_world.specs.declared.world_guard.WorldCall.{WorldCall}
use Rattle.kf_core.proofs.Lists.{slice_get-set_same}
use Rattle.kf_core.proofs.Keeping.{one_key}

-- of two writes to one place of a list, the last one stays
pub slice_set-set : {X : Type 0} (xs : List X) (i : ℕ) (v u : X) → slice_set (slice_set xs i v) i u ≡ slice_set xs i u
slice_set-set [] i v u = refl
slice_set-set (x ∷ xs) zero v u = refl
slice_set-set (x ∷ xs) (suc i) v u = ap (λ ys. x ∷ ys) (slice_set-set xs i v u)

-- a bounded world is determined by its slots and callers, and its limit
pub same_bounded : (w : BoundedWorld) (world : BareWorld) (limit : ℕ) → w.world ≡ world → w.limit ≡ limit → w ≡ bounded world limit
same_bounded w world limit is lim = ap (λ v. bounded v w.limit) is ∙ ap (bounded world) lim

-- after a step that changed its phase, the caller has the new phase
pub put_there : (w : BareWorld) (id : ℕ) (key : Key) (from to : Phase) → IsCaller w id key from → IsCaller (with_phase w id key to) id key to
put_there w id key from to there = slice_get-set_same w.callers id _ (slice_get_within w.callers id _ there)

-- a caller that waits may try, and one that has a reference may end its call
pub may_enter : (w : BoundedWorld) (id : ℕ) (key : Key) (phase : Phase) → IsCaller w.world id key phase → IsTrue (is_waiting phase) → May w (Enter id)
may_enter w id key phase there waits = (_, (key, phase, there, waits, refl))

pub may_leave : (w : BoundedWorld) (id : ℕ) (key : Key) (phase : Phase) → IsCaller w.world id key phase → IsTrue (has_reference phase) → May w (Leave id)
may_leave w id key phase there has = (_, (key, phase, there, has, refl))

-- the world after a try, and after the end of a call
pub after_enter : (w w' : BoundedWorld) (id : ℕ) (key : Key) (phase : Phase) → IsCaller w.world id key phase → Happens w (Enter id) w' → w'.world ≡ with_phase w.world id key (if is_live w.world key then Running else Turned)
after_enter w w' id key phase there happens =
    let step = happens.steps in
    subst (λ k. w'.world ≡ with_phase w.world id k (if is_live w.world k then Running else Turned)) (one_key w.world id step.0 key step.1 phase step.2 there).0 step.4

pub after_leave : (w w' : BoundedWorld) (id : ℕ) (key : Key) (phase : Phase) → IsCaller w.world id key phase → Happens w (Leave id) w' → w'.world ≡ with_phase w.world id key Still
after_leave w w' id key phase there happens =
    let step = happens.steps in
    subst (λ k. w'.world ≡ with_phase w.world id k Still) (one_key w.world id step.0 key step.1 phase step.2 there).0 step.4

-- the caller after a try, if it is known whether the node is live
pub caller_after : (w w' : BoundedWorld) (id : ℕ) (key : Key) (phase : Phase) (live : Bool) → IsCaller w.world id key phase → Happens w (Enter id) w' → live ≡ is_live w.world key → IsCaller w'.world id key (if live then Running else Turned)
caller_after w w' id key phase live there happens told =
    subst (λ v. IsCaller v id key (if live then Running else Turned)) (sym (after_enter w w' id key phase there happens ∙ ap (λ b. with_phase w.world id key (if b then Running else Turned)) (sym told)))
    (put_there w.world id key phase (if live then Running else Turned) there)

-- a caller whose try was refused may try again
pub may_enter_again : (w w' : BoundedWorld) (id : ℕ) → Happens w (Enter id) w' → ((key : Key) (phase : Phase) → IsCaller w.world id key phase → false ≡ is_live w.world key) → May w' (Enter id)
may_enter_again w w' id happens told =
    let step = happens.steps in
    may_enter w' id step.0 Turned (caller_after w w' id step.0 step.1 false step.2 happens (told step.0 step.1 step.2)) refl

-- a caller whose call has ended may try again
pub may_enter_after : (w w' : BoundedWorld) (id : ℕ) (key : Key) (phase : Phase) → IsCaller w.world id key phase → Happens w (Leave id) w' → May w' (Enter id)
may_enter_after w w' id key phase there happens =
    may_enter w' id key Still (subst (λ v. IsCaller v id key Still) (sym (after_leave w w' id key phase there happens)) (put_there w.world id key phase Still there)) refl

-- a caller whose try found the node live has entered
pub has_entered : (w w' : BoundedWorld) (id : ℕ) (key : Key) (phase : Phase) → Happens w (Enter id) w' → ((key : Key) (phase : Phase) → IsCaller w.world id key phase → true ≡ is_live w.world key) → IsCaller w.world id key phase → HasEntered w id key w'
has_entered w w' id key phase happens told there = record {
  step = happens;
  live = sym (told key phase there);
  running = caller_after w w' id key phase true there happens (told key phase there);
}

-- if a call was given back, the same caller is still running on the same key
pub given_back_running : (w : BoundedWorld) (before after : CallView ℕ) → GivenBack before after → IsCaller w.world before.caller before.key Running → IsCaller w.world after.caller after.key Running
given_back_running w before after back running = rw (back.caller, back.key) running

-- after two steps of a caller, its phase is that of the second
pub moved_twice : (w : BareWorld) (id : ℕ) (key : Key) (from to : Phase) → with_phase (with_phase w id key from) id key to ≡ with_phase w id key to
moved_twice w id key from to = ap (λ callers. record { slots = w.slots; callers = callers }) (slice_set-set w.callers id _ _)

-- the world after a refused try of a caller with this key
pub after_turned : (w w' : BoundedWorld) (id : ℕ) (key : Key) (phase : Phase) → IsCaller w.world id key phase → HasTurned w id w' → IsFalse (is_live w.world key) × (w' ≡ bounded (with_phase w.world id key Turned) w.limit)
after_turned w w' id key phase there turned =
    let came : w'.world ≡ with_phase w.world id key (if is_live w.world key then Running else Turned) = after_enter w w' id key phase there turned.step in
    let found = caller_after w w' id key phase (is_live w.world key) there turned.step refl in
    let same : turned.key ≡ key = (one_key w'.world id turned.key key Turned _ turned.turned found).0 in
    let dead : IsFalse (is_live w.world key) = subst (λ k. IsFalse (is_live w.world k)) same turned.not_live in
    (dead, same_bounded w' (with_phase w.world id key Turned) w.limit (rw dead at came) turned.step.limit)

-- the world after a call from its start to its end
pub after_call : (w inside w' : BoundedWorld) (id : ℕ) (key call_key : Key) (phase : Phase) → IsCaller w.world id key phase → HasEntered w id call_key inside → Happens inside (Leave id) w' → IsTrue (is_live w.world key) × (w' ≡ bounded (with_phase w.world id key Still) w.limit)
after_call w inside w' id key call_key phase there entered left =
    let came : inside.world ≡ with_phase w.world id key (if is_live w.world key then Running else Turned) = after_enter w inside id key phase there entered.step in
    let found = caller_after w inside id key phase (is_live w.world key) there entered.step refl in
    let same : call_key ≡ key = (one_key inside.world id call_key key Running _ entered.running found).0 in
    let live : IsTrue (is_live w.world key) = subst (λ k. IsTrue (is_live w.world k)) same entered.live in
    let ended : w'.world ≡ with_phase inside.world id key Still = after_leave inside w' id key Running (subst (λ k. IsCaller inside.world id k Running) same entered.running) left in (
      live,
      same_bounded w' (with_phase w.world id key Still) w.limit
          (ended ∙ ap (λ v. with_phase v id key Still) (rw live at came) ∙ moved_twice w.world id key Running Still)
          (left.limit ∙ entered.step.limit),
    )

module _ {Done : Type 0} (idle : Type 0) (does : Done → Type 0) where
  -- a visit, as the guard describes it, is a visit in which only the caller makes steps
  pub alone : (w w' : BoundedWorld) (id id' : ℕ) (key : Key) (phase : Phase) (visit : Visit Done) → IsCaller w.world id key phase
      → Visits (λ w id (call : WorldCall) w'. (call.caller ≡ id) × HasEntered w id call.key w') (λ w id back w'. (back ≡ id) × HasTurned w id w') (λ w call id w'. (id ≡ call.caller) × Happens w (Leave id) w') (λ call. record { caller = call.caller; key = call.key; phase = Running }) idle does w id w' id' visit
      → (id' ≡ id) × VisitsAlone w id key w' idle does visit
  alone w w' id id' key phase unvisited there visit = (visit.1, (visit.0, visit.2))
  alone w w' id id' key phase (tried None) there visit =
      let after = after_turned w w' id key phase there visit.0.1 in (visit.0.0, (after.0, after.1, visit.1))
  alone w w' id id' key phase (tried (Some d)) there visit =
      let same : id' ≡ id = visit.left.0 ∙ visit.given_back.caller ∙ visit.entered.0 in
      let after = after_call w visit.inside w' id key visit.call.key phase there visit.entered.1 (subst (λ n. Happens visit.inside (Leave n) w') same visit.left.1) in
      (same, (after.0, after.1, visit.did))
