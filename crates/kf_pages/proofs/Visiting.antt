-- Visits that were made, and what they mean for an operation on a file.
use Rattle.std.proofs.Common.{◌≡◌, ℕ, Option, None, Some, IsSome, is_some, refl}
use Rattle.kf_core.specs.declared.key.Node.{Node}
use Rattle.kf_core.specs.declared.key.Node.TheVariants.{File}
use Rattle.kf_core.specs.declared.caller.Phase.TheVariants.{Running}
use Rattle.kf_core.specs.declared.refusal.Refusal.{Refusal}
use Rattle.kf_core.specs.Calls.{CallView, GivenBack, Called, Visit, tried}
use Rattle.kf_pages.specs.declared.contents.Want.{Want}
use Rattle.kf_pages.specs.Held.{hold_in}
use Rattle.kf_pages.specs.Files.{Opens, open_cause}

-- a running call that nobody changed is given back
pub given_back : {CallerId : Type 0} (view : CallView CallerId) → view.phase ≡ Running → GivenBack view view
given_back view running = record { caller = refl; key = refl; reference = rw running refl }

module _ {Guard Hold Call CallerId : Type 0} {enters : Guard → Hold → Call → Guard → Type 0} {leaves : Guard → Call → Hold → Guard → Type 0} {view : Call → CallView CallerId} {does : Type 0} {guard guard' : Guard} {hold hold' : Hold} where
  -- a call from its start to its end
  pub called : (call ended : Call) (inside : Guard) → enters guard hold call inside → (view call).phase ≡ Running → does → GivenBack (view call) (view ended) → leaves inside ended hold' guard' → Called enters leaves view does guard hold guard' hold'
  called call ended inside entered running did back left = record {
    call = call;
    ended = ended;
    inside = inside;
    entered = entered;
    running = running;
    did = did;
    given_back = back;
    left = left;
  }

  -- a call that was left as it was entered
  pub untouched : (call : Call) (inside : Guard) → enters guard hold call inside → (view call).phase ≡ Running → does → leaves inside call hold' guard' → Called enters leaves view does guard hold guard' hold'
  untouched call inside entered running did left = called call call inside entered running did (given_back (view call) running) left

-- after a try of its node, a file is opened, or is refused for this reason
pub opens_file : (Visits : Visit (Unit {0}) → Type 0) (node : Node) (want : Want) (mode tag : ℕ) (came : Option (Unit {0})) (refused : Option Refusal)
    → node ≡ File mode tag → Visits (tried came) → refused ≡ open_cause mode want (is_some came) → Opens Visits node want refused
opens_file Visits node want mode tag came refused is visit why = record {
  dir = λ e. absurd cc;
  link = λ target e. absurd cc;
  file = λ m t e. let same : m ≡ mode = cc in (came, visit, rw same why);
}

-- what is in a place is what was put there
pub same_hold : {Hold : Type 0} (place : Option Hold) (there : IsSome place) (hold : Hold) → place ≡ Some hold → hold_in place there ≡ hold
same_hold (Some other) there hold put = cc
same_hold None there hold put = cc
