-- What the steps of one caller do to the world.
use Rattle.std.proofs.Common.{◌≡◌, ℕ, refl, ap, sym, ◌∙◌, subst, cond, slice_set}
use Rattle.std.specs.Prelude.{Option, None, Some, slice_get, is_some, IsTrue}
use Rattle.std.proofs.lemmas.Option.{same_Some, slice_get_within}
use Rattle.std.proofs.lemmas.List.{set-set}
use Rattle.kf_core.specs.declared.key.Key.{Key}
use Rattle.kf_core.specs.declared.slot.NodeFlags.{NodeFlags}
use Rattle.kf_core.specs.declared.caller.Caller.{Caller}
use Rattle.kf_core.specs.declared.caller.Phase.{Phase}
use Rattle.kf_core.specs.declared.caller.Phase.TheVariants.{Still, Drained, Parted, Spent}
use Rattle.kf_core.specs.declared.event.Event.TheVariants.{Look, Unlink, Part, Release}
use Rattle.kf_core.specs.Phases.{may_release}
use Rattle.kf_core.specs.Marks.{are_doomed}
use Rattle.kf_core.specs.Bare.{BareWorld, IsCaller, marks}
use Rattle.kf_world.specs.Bounded.{BoundedWorld, bounded, Happens, May}
use Rattle.kf_core.specs.Steps.{with_marks, with_phase, MayLook, MayPart, NoReference}
use Rattle.kf_tree.proofs.SlotWrites.{marks_written, alone_linked}
use Rattle.kf_plain.specs.Removals.{IsMarkedDoomed, released, with_callers, taken_out}
use Rattle.kf_core.proofs.Climbs.{same_key_self}
use Rattle.kf_core.proofs.Lists.{slice_get-set_same}

-- the world in which the caller of this number is on the key, in this phase
abbrev pub in_phase : BoundedWorld → ℕ → Key → Phase → BoundedWorld
in_phase w id key phase = with_callers w (slice_set w.world.callers id (record { key = key; phase = phase }))

module _ (w w' : BoundedWorld) where
  same_world : (v : BareWorld) → w'.world ≡ v → w'.limit ≡ w.limit → w' ≡ bounded v w.limit
  same_world v e l = ap (λ x. bounded x w'.limit) e ∙ ap (bounded v) l

module _ (w w' : BoundedWorld) (id : ℕ) (key : Key) where
  same_caller : (phase phase' : Phase) (key' : Key) → IsCaller w.world id key phase → IsCaller w.world id key' phase' → key' ≡ key
  same_caller phase phase' key' there there' = ap (λ (c : Caller). c.key) (same_Some _ _ (sym there' ∙ there))

  pub has_released : (phase : Phase) → IsCaller w.world id key phase → Happens w (Release id) w' → w' ≡ in_phase w id key Spent
  has_released phase there h = same_world w w' _ (h.steps.4 ∙ ap (λ k. with_phase w.world id k Spent) (same_caller phase h.steps.1 h.steps.0 there h.steps.2)) h.limit

  pub has_looked : (phase : Phase) → IsCaller w.world id key phase → Happens w (Look id) w' → w' ≡ in_phase w id key Drained
  has_looked phase there h = same_world w w' _ (h.steps.1 ∙ ap (λ k. with_phase w.world id k Drained) (same_caller phase h.steps.0.phase h.steps.0.key there h.steps.0.there)) h.limit

  pub has_unlinked : IsCaller w.world id key Drained → Happens w (Unlink id) w' → w' ≡ bounded (with_marks w.world key None) w.limit
  has_unlinked there h = same_world w w' _ (h.steps.3 ∙ ap (λ k. with_marks w.world k None) (same_caller Drained Drained h.steps.0 there h.steps.1)) h.limit

  pub has_parted : IsCaller w.world id key Drained → Happens w (Part id) w' → w' ≡ in_phase w id key Parted
  has_parted there h = same_world w w' _ (h.steps.1 ∙ ap (λ k. with_phase w.world id k Parted) (same_caller Drained Drained h.steps.0.key there h.steps.0.there)) h.limit

there_after : (w w' : BoundedWorld) (id : ℕ) (key : Key) (before phase : Phase) → IsCaller w.world id key before → w' ≡ in_phase w id key phase → IsCaller w'.world id key phase
there_after w w' id key before phase there e = subst (λ (v : BoundedWorld). IsCaller v.world id key phase) (sym e) (slice_get-set_same w.world.callers id _ (slice_get_within w.world.callers id _ there))

-- the world after the caller of this number, whatever its key and phase, has released
pub caller_released : (w w' : BoundedWorld) (id : ℕ) (c : Caller) → slice_get w.world.callers id ≡ Some c → Happens w (Release id) w' → w' ≡ with_callers w (slice_set w.world.callers id (released c))
caller_released w w' id c there h = has_released w w' id c.key c.phase there h

pub caller_may_release : (w : BoundedWorld) (id : ℕ) (c : Caller) → slice_get w.world.callers id ≡ Some c → IsTrue (may_release c.phase) → May w (Release id)
caller_may_release w id c there may = (_, (c.key, c.phase, there, may, refl))

doomed_linked : (o : Option NodeFlags) → IsMarkedDoomed o → IsTrue (is_some o)
doomed_linked o h = ap is_some h.1

doomed_doomed : (o : Option NodeFlags) → IsMarkedDoomed o → IsTrue (are_doomed o)
doomed_doomed o h = ap are_doomed h.1 ∙ h.2

-- one caller takes its doomed node out of the world
module _ (w w1 : BoundedWorld) (id : ℕ) (key : Key) (still : IsCaller w.world id key Still) (doomed : IsMarkedDoomed (marks w.world key)) where
  pub may_look : NoReference w.world key → MayLook w.world id
  may_look unused = record { key = key; phase = Still; there = still; waits = refl; doomed = doomed_doomed (marks w.world key) doomed; unused = unused }

  module _ (look : Happens w (Look id) w1) where
    looked : w1 ≡ in_phase w id key Drained
    looked = has_looked w w1 id key Still still look

    drained : IsCaller w1.world id key Drained
    drained = there_after w w1 id key Still Drained still looked

    still_doomed : IsMarkedDoomed (marks w1.world key)
    still_doomed = subst (λ (v : BoundedWorld). IsMarkedDoomed (marks v.world key)) (sym looked) doomed

    pub may_unlink : May w1 (Unlink id)
    may_unlink = (_, (key, drained, doomed_linked (marks w1.world key) still_doomed, refl))

    module _ (w2 : BoundedWorld) (unlink : Happens w1 (Unlink id) w2) where
      unlinked : w2 ≡ bounded (with_marks w1.world key None) w1.limit
      unlinked = has_unlinked w1 w2 id key drained unlink

      drained_on : IsCaller w2.world id key Drained
      drained_on = subst (λ (v : BoundedWorld). IsCaller v.world id key Drained) (sym unlinked) drained

      gone : marks w2.world key ≡ None
      gone = ap (λ (v : BoundedWorld). marks v.world key) unlinked ∙ marks_written w1.world.slots key key None (alone_linked w1.world.slots key still_doomed.0 still_doomed.1)
          ∙ ap (λ b. cond b None (marks w1.world key)) (same_key_self key)

      pub may_part : MayPart w2.world id
      may_part = record { key = key; there = drained_on; gone = ap is_some gone }

      module _ (w3 : BoundedWorld) (part : Happens w2 (Part id) w3) where
        parted : w3 ≡ in_phase w2 id key Parted
        parted = has_parted w2 w3 id key drained_on part

        there_parted : IsCaller w3.world id key Parted
        there_parted = there_after w2 w3 id key Drained Parted drained_on parted

        pub may_end : May w3 (Release id)
        may_end = (_, (key, Parted, there_parted, refl, refl))

        pub is_taken_out : (w4 : BoundedWorld) → Happens w3 (Release id) w4 → w4 ≡ taken_out w id key
        is_taken_out w4 release =
            has_released w3 w4 id key Parted there_parted release
            ∙ ap (λ v. in_phase v id key Spent) (parted ∙ ap (λ v. in_phase v id key Parted) (unlinked ∙ ap (λ (v : BoundedWorld). bounded (with_marks v.world key None) v.limit) looked))
            ∙ ap (with_callers (bounded (with_marks w.world key None) w.limit))
            (set-set (slice_set w.world.callers id (record { key = key; phase = Drained })) id _ _ ∙ set-set w.world.callers id _ _)
