-- Tries for a reference in the world of a single caller, and visits to a node.
use Rattle.std.specs.Prelude.{◌≡◌, ℕ, None, Some, IsTrue, IsFalse}
use Rattle.kf_core.specs.declared.key.Key.{Key}
use Rattle.kf_core.specs.declared.caller.Phase.TheVariants.{Still, Turned, Running}
use Rattle.kf_core.specs.declared.event.Event.TheVariants.{Enter}
use Rattle.kf_core.specs.Bare.{IsCaller, is_live}
use Rattle.kf_core.specs.Steps.{with_phase}
use Rattle.kf_world.specs.Bounded.{BoundedWorld, bounded, Happens}
use Rattle.kf_core.specs.Calls.{Visit, unvisited, tried}

-- the caller with this number tried to take a reference to the node, which was live, and is then Running
pub record HasEntered (w : BoundedWorld) (id : ℕ) (key : Key) (w' : BoundedWorld) : Type 0 where
  pub step : Happens w (Enter id) w'
  pub live : IsTrue (is_live w.world key)
  pub running : IsCaller w'.world id key Running

-- the caller with this number tried to take a reference to its node, which was not live, and is then Turned
pub record HasTurned (w : BoundedWorld) (id : ℕ) (w' : BoundedWorld) : Type 0 where
  pub step : Happens w (Enter id) w'
  pub key : Key
  pub not_live : IsFalse (is_live w.world key)
  pub turned : IsCaller w'.world id key Turned

module _ {Done : Type 0} where
  -- a visit to the node of this key by the caller with this number, in which only this caller made steps. If
  -- it was not made, the world is as before; if the node was not live, the caller is then Turned; in both
  -- cases `idle` holds. If the node was live, the caller is then Still, and what the visit did is as `does`
  -- says
  abbrev pub VisitsAlone : BoundedWorld → ℕ → Key → BoundedWorld → Type 0 → (Done → Type 0) → Visit Done
      → Type 0
  VisitsAlone w id key w' idle does unvisited = (w' ≡ w) × idle
  VisitsAlone w id key w' idle does (tried None) =
      IsFalse (is_live w.world key) × (w' ≡ bounded (with_phase w.world id key Turned) w.limit) × idle
  VisitsAlone w id key w' idle does (tried (Some d)) =
      IsTrue (is_live w.world key) × (w' ≡ bounded (with_phase w.world id key Still) w.limit) × does d
