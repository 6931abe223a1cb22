-- A pass with the key of a hot node, and a call by such a pass.
use Rattle.std.specs.Prelude.{◌≡◌, ℕ}
use Rattle.kf_core.specs.declared.key.Key.{Key}
use Rattle.kf_core.specs.declared.caller.Phase.TheVariants.{Running}
use Rattle.kf_gates.specs.declared.view.GateView.TheVariants.{Inside}
use Rattle.kf_gates.specs.States.{PassState, CallState, IsSameCall, WasRefused}
use Rattle.kf_gates.specs.Steps.{stepped_off}

pub record HotPassState : Type 0 where
  pub pass : PassState
  pub key : Key
  pub number : ℕ

pub record HotCallState : Type 0 where
  pub call : CallState
  pub key : Key

-- it is the same call, of the same node
abbrev pub IsSameHotCall : HotCallState → HotCallState → Type 0
IsSameHotCall old new = IsSameCall old.call new.call × (new.key ≡ old.key)

-- the pass's look found the gate open under the pass's number, and the call is inside
pub record WasLetIn (before : HotPassState) (call : HotCallState) : Type 0 where
  pub seat : call.call.seat ≡ before.pass.seat
  pub lane : call.call.lane ≡ before.pass.lane
  pub key : call.key ≡ before.key
  pub number : call.call.number ≡ before.number
  pub running : call.call.phase ≡ Running
  pub inside : call.call.view ≡ Inside before.pass.lane before.number

-- the pass's look found the gate not open under the pass's number, and the pass does not count in its lane
pub record WasTurnedAway (before after : HotPassState) : Type 0 where
  pub seat : after.pass.seat ≡ before.pass.seat
  pub lane : after.pass.lane ≡ before.pass.lane
  pub key : after.key ≡ before.key
  pub number : after.number ≡ before.number
  pub refused : WasRefused before.number after.pass

-- the call no longer counts in its lane
pub record WentOut (call : HotCallState) (after : HotPassState) : Type 0 where
  pub seat : after.pass.seat ≡ call.call.seat
  pub lane : after.pass.lane ≡ call.call.lane
  pub key : after.key ≡ call.key
  pub number : after.number ≡ call.call.number
  pub outside : after.pass.view ≡ stepped_off call.call.view

-- the same three facts, as members of a guard that has no state
module _ {G : Type 0} where
  abbrev pub lets_in : G → HotPassState → HotCallState → G → Type 0
  lets_in _ pass call _ = WasLetIn pass call

  abbrev pub turns_away : G → HotPassState → HotPassState → G → Type 0
  turns_away _ pass back _ = WasTurnedAway pass back

  abbrev pub goes_out : G → HotCallState → HotPassState → G → Type 0
  goes_out _ call pass _ = WentOut call pass
