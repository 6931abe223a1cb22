-- A call as callbacks see it, and visits to a node under a call.
use Rattle.std.specs.Prelude.{◌≡◌, IsTrue, Option, None, Some}
use Rattle.kf_core.specs.declared.key.Key.{Key}
use Rattle.kf_core.specs.declared.caller.Phase.{Phase}
use Rattle.kf_core.specs.declared.caller.Phase.TheVariants.{Running}
use Rattle.kf_core.specs.Phases.{has_reference}

-- the caller of a call, its key, and its phase
pub record CallView (CallerId : Type 0) : Type 0 where
  pub caller : CallerId
  pub key : Key
  pub phase : Phase

module _ {CallerId : Type 0} where
  -- the call `after` is of the same caller on the same key as `before`, and has a reference
  pub record GivenBack (before after : CallView CallerId) : Type 0 where
    pub caller : after.caller ≡ before.caller
    pub key : after.key ≡ before.key
    pub reference : IsTrue (has_reference after.phase)

-- the result of a visit: there was no try for a call; or a try returned no call; or a try returned a call,
-- and this was done under it
pub data Visit (Done : Type 0) : Type 0 where
  unvisited : Visit Done
  tried : Option Done → Visit Done

module _ {Guard Hold Call CallerId : Type 0} where
  -- one call from its start, when it is running, to its end, with what was done in between
  pub record Called (enters : Guard → Hold → Call → Guard → Type 0)
      (leaves : Guard → Call → Hold → Guard → Type 0) (view : Call → CallView CallerId) (does : Type 0)
      (guard : Guard) (hold : Hold) (guard' : Guard) (hold' : Hold) : Type 0 where
    pub call : Call
    pub ended : Call
    pub inside : Guard
    pub entered : enters guard hold call inside
    pub running : (view call).phase ≡ Running
    pub did : does
    pub given_back : GivenBack (view call) (view ended)
    pub left : leaves inside ended hold' guard'

module _ {Guard Hold Call CallerId Done : Type 0} where
  -- a visit by this hold. `idle` holds if nothing is done, else `does` holds of what is done
  abbrev pub Visits : (Guard → Hold → Call → Guard → Type 0) → (Guard → Hold → Hold → Guard → Type 0)
      → (Guard → Call → Hold → Guard → Type 0) → (Call → CallView CallerId) → Type 0 → (Done → Type 0) → Guard
      → Hold → Guard → Hold → Visit Done → Type 0
  Visits enters refuses leaves view idle does guard hold guard' hold' unvisited =
      (guard' ≡ guard) × (hold' ≡ hold) × idle
  Visits enters refuses leaves view idle does guard hold guard' hold' (tried None) =
      refuses guard hold hold' guard' × idle
  Visits enters refuses leaves view idle does guard hold guard' hold' (tried (Some d)) =
      Called enters leaves view (does d) guard hold guard' hold'
