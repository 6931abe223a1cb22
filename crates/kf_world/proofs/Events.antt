-- What a caller of the list may do is one step.
use Rattle.std.proofs.Common.{◌≡◌, inl, inr, ℕ, List, ◌<◌, length, get_or, refl, ap, sym, ◌∙◌, subst, Bool, true, false}
use Rattle.std.specs.Prelude.{slice_get, Option, Some, None, if◌then◌else◌}
use Rattle.std.specs.Option.{option_map}
use Rattle.std.proofs.lemmas.Option.{same_Some, none-some, get_or_from_slice_get, slice_get_read, slice_get_within}
use Rattle.kf_core.specs.declared.key.Key.{Key}
use Rattle.kf_core.specs.declared.caller.Phase.{Phase}
use Rattle.kf_core.specs.declared.caller.Phase.TheVariants.{Still, Turned, Running, Broken, Restored, Drained, Hidden, Spent}
use Rattle.kf_core.specs.declared.caller.Caller.{Caller}
use Rattle.kf_core.specs.declared.slot.NodeFlags.{NodeFlags}
use Rattle.kf_core.specs.declared.slot.SlotState.{SlotState}
use Rattle.kf_core.specs.declared.event.Event.{Event}
use Rattle.kf_core.specs.declared.event.Event.TheVariants.{Mark, Enter, Leave, Break, Restore, Unlink, Show, Release}
use Rattle.kf_core.specs.Bare.{BareWorld, IsCaller, IsLast, marks, marks_in, is_live, is_linked}
use Rattle.kf_core.specs.Marks.{fresh_marks}
use Rattle.kf_core.specs.Phases.{has_reference, is_waiting, may_release}
use Rattle.kf_core.specs.Safe.{Safe}
use Rattle.kf_core.specs.Steps.{BareStep, MayBeBorn, MayPart, MayPin, with_phase, with_marks}
use Rattle.kf_world.specs.Bounded.{BoundedWorld, Happens, IsFree, bounded}
use Rattle.kf_core.proofs.Keeping.{slot_state, linked_last, one_key}
use Rattle.kf_core.proofs.Lists.{slice_get-set_same}
use Rattle.kf_core.proofs.SlotStates.{in_place, shown}
use Rattle.kf_world.proofs.Kept.{CountsFrom, linked_taken, held_taken, waiting_counts, reference_counts, release_counts}

-- a read at the place of an item gives this item
pub found : {X : Type 0} (xs ys : List X) (i : ℕ) (x y : X) → xs ≡ ys → x ≡ get_or xs i x → slice_get ys i ≡ Some y → slice_get ys i ≡ Some x
found xs ys i x y e is h = h ∙ ap Some (sym (is ∙ (ap (λ zs. get_or zs i x) e ∙ get_or_from_slice_get ys i y x h)))

-- a read within a list gives the item at that place
pub read : {X : Type 0} (xs ys : List X) (i : ℕ) (x : X) → xs ≡ ys → i < length xs → x ≡ get_or xs i x → slice_get ys i ≡ Some x
read xs ys i x e within is = subst (λ zs. slice_get zs i ≡ Some x) e (slice_get_read xs (length xs) i x refl within is)

-- an event happens if the new world is one step further, with the limit as before
pub happens : (before now : BoundedWorld) (event : Event) (w' : BareWorld) → BareStep before.world event w' → now ≡ bounded w' before.limit → Happens before event now
happens before now event w' step e = record {
  steps = subst (λ x. BareStep before.world event x) (sym (ap (λ (b : BoundedWorld). b.world) e)) step;
  limit = ap (λ (b : BoundedWorld). b.limit) e;
}

-- for each kind of step: which world it leads to, and what its caller counts as before it
module _ (w w' : BareWorld) (c : ℕ) (key : Key) (phase : Phase) (there : IsCaller w c key phase) where
  pub enter_step : BareStep w (Enter c) w' → BareStep w (Enter c) (with_phase w c key (if is_live w key then Running else Turned))
  enter_step s = (key, phase, there, subst (λ p. is_waiting p ≡ true) (one_key w c s.0 key s.1 phase s.2 there).1 s.3, refl)

  -- a try, if it is known whether the node is live
  pub tried_step : (live : Bool) → live ≡ is_live w key → BareStep w (Enter c) w' → BareStep w (Enter c) (with_phase w c key (if live then Running else Turned))
  tried_step live told s = subst (λ b. BareStep w (Enter c) (with_phase w c key (if b then Running else Turned))) (sym told) (enter_step s)

  pub enter_from : BareStep w (Enter c) w' → CountsFrom w c key Still
  unfolding enter_step
  enter_from s = (phase, there, waiting_counts phase (enter_step s).3)

  pub leave_step : BareStep w (Leave c) w' → BareStep w (Leave c) (with_phase w c key Still)
  leave_step s = (key, phase, there, subst (λ p. has_reference p ≡ true) (one_key w c s.0 key s.1 phase s.2 there).1 s.3, refl)

  pub leave_from : BareStep w (Leave c) w' → CountsFrom w c key Running
  unfolding leave_step
  leave_from s = (phase, there, reference_counts phase (leave_step s).3)

  pub release_step : BareStep w (Release c) w' → BareStep w (Release c) (with_phase w c key Spent)
  release_step s = (key, phase, there, subst (λ p. may_release p ≡ true) (one_key w c s.0 key s.1 phase s.2 there).1 s.3, refl)

  pub release_from : BareStep w (Release c) w' → CountsFrom w c key Still
  unfolding release_step
  release_from s = (phase, there, release_counts phase (release_step s).3)

  pub break_step : BareStep w (Break c) w' → BareStep w (Break c) (with_phase w c key Broken)
  break_step s = let e = one_key w c s.0 key Running phase s.1 there in (key, subst (λ k. IsCaller w c k Running) e.0 s.1, refl)

  pub break_from : BareStep w (Break c) w' → CountsFrom w c key Running
  unfolding break_step
  break_from s = (Running, (break_step s).1, (refl, refl, refl))

  pub restore_step : BareStep w (Restore c) w' → BareStep w (Restore c) (with_phase w c key Restored)
  restore_step s = let e = one_key w c s.0 key Broken phase s.1 there in (key, subst (λ k. IsCaller w c k Broken) e.0 s.1, refl)

  pub restore_from : BareStep w (Restore c) w' → CountsFrom w c key Broken
  unfolding restore_step
  restore_from s = (Broken, (restore_step s).1, (refl, refl, refl))

  pub show_step : BareStep w (Show c) w' → BareStep w (Show c) (with_phase w c key Still)
  show_step s = let e = one_key w c s.0 key Hidden phase s.1 there in (key, subst (λ k. IsCaller w c k Hidden) e.0 s.1, refl)

  pub show_from : BareStep w (Show c) w' → CountsFrom w c key Hidden
  unfolding show_step
  show_from s = (Hidden, (show_step s).1, (refl, refl, refl))

  pub unlink_step : BareStep w (Unlink c) w' → BareStep w (Unlink c) (with_marks w key None)
  unlink_step s = let e = one_key w c s.0 key Drained phase s.1 there in (key, subst (λ k. IsCaller w c k Drained) e.0 s.1, subst (λ k. is_linked w k ≡ true) e.0 s.2, refl)

  -- a caller that unlinks its node still holds the slot
  pub unlink_taken : BareStep w (Unlink c) w' → ¬ IsFree (with_marks w key None) key.slot
  unlink_taken s = held_taken (with_marks w key None) key.slot c key Drained (subst (λ k. IsCaller w c k Drained) (one_key w c s.0 key Drained phase s.1 there).0 s.1) refl (λ e. cc)

-- marking a node whose marks are known dooms it and leaves its other mark as it was
pub mark_step : (w w' : BareWorld) (key : Key) (m : NodeFlags) → marks w key ≡ Some m → BareStep w (Mark key) w' → BareStep w (Mark key) (with_marks w key (Some (record { activated = m.activated; doomed = true })))
mark_step w w' key m is s =
    let e : s.0 ≡ m = same_Some _ _ (sym s.1 ∙ is) in
    (m, is, subst (λ (x : NodeFlags). x.doomed ≡ false) e s.2, refl)

-- the slot of a key whose marks were written
pub written_there : (w : BareWorld) (key : Key) (m : Option NodeFlags) → key.slot < length w.slots → slice_get (with_marks w key m).slots key.slot ≡ Some (slot_state key.generation m)
written_there w key m within = slice_get-set_same w.slots key.slot (slot_state key.generation m) within

-- the slot is not free if the marks of a linked node were written
pub linked_now : (w : BareWorld) (key : Key) (m : NodeFlags) → key.slot < length w.slots → ¬ IsFree (with_marks w key (Some m)) key.slot
linked_now w key m within = linked_taken (with_marks w key (Some m)) key.slot (slot_state key.generation (Some m)) m (written_there w key (Some m) within) refl

-- the slot of a linked node is in the list
pub marks_within : (w : BareWorld) (key : Key) (m : NodeFlags) → marks w key ≡ Some m → key.slot < length w.slots
marks_within w key m h = slice_get_within w.slots key.slot _ (in_place (slice_get w.slots key.slot) key.generation m h)

-- the marks of a node after its birth
pub born_marks : (w w' : BareWorld) (key : Key) → MayBeBorn w key → w' ≡ with_marks w key (Some fresh_marks) → marks w' key ≡ Some fresh_marks
born_marks w w' key may e =
    ap (λ x. marks x key) e ∙ (ap (λ (o : Option SlotState). marks_in o key.generation) (written_there w key (Some fresh_marks) (slice_get_within w.slots key.slot _ may.unlinked)) ∙ shown key.generation (Some fresh_marks))

-- if a drained caller may not part, its node is linked
pub stays_linked : (w : BareWorld) (c : ℕ) (key : Key) → IsCaller w c key Drained → ¬ MayPart w c → is_linked w key ≡ true
stays_linked w c key there none = elim (is_linked w key) as (λ b. is_linked w key ≡ b → is_linked w key ≡ true) [ true ↦ λ e. e | false ↦ λ e. absurd (none (record { key = key; there = there; gone = e })) ] refl

-- the slot of a key that may be pinned is in the list
pub pin_within : (w : BareWorld) (key : Key) → Safe w → MayPin w key → key.slot < length w.slots
pin_within w key safe may =
    let last : IsLast w key.slot key.generation = elim may [ inl linked ↦ linked_last w key (marks w key) refl linked | inr h ↦ safe.held_last h.caller key h.phase h.there h.holds ] in
    slice_get_within w.slots key.slot last.0 last.1

-- if the key and the phase of a caller are known, the caller is known
pub told_caller : (found : Option Caller) (key : Key) (phase : Phase) → ◌≡◌ {A = Option (Key × Phase)} (Some (key, phase)) (option_map (λ c. (c.key, c.phase)) found) → found ≡ Some (record { key = key; phase = phase })
told_caller None key phase told = absurd (none-some _ (sym told))
told_caller (Some c) key phase told = let same : ◌≡◌ {A = Key × Phase} (key, phase) (c.key, c.phase) = same_Some _ _ told in ap (λ (both : Key × Phase). Some (record { key = both.0; phase = both.1 })) (sym same)
