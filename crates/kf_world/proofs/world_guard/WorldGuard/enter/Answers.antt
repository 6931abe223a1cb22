-- The try is one event. After it the caller may end the call, or if the try was refused, try again.
use Rattle.std.proofs.Common.{refl}
use Rattle.kf_core.specs.declared.caller.Phase.TheVariants.{Running}
use Rattle.kf_world.proofs.Events.{told_caller}
use Rattle.kf_world.proofs.WorldVisits.{may_enter_again, has_entered, given_back_running}
use Rattle.kf_world.proofs.world_guard.WorldGuard.enter.Goals as goal

pub returns-then-not-enter-clause-may_enter : goal.returns-then-not-enter-clause-may_enter
returns-then-not-enter-clause-may_enter c =
    may_enter_again c.args.self.now c.enter.new.self c.args.id c.enter.ensures.step (λ key phase there. rw c.if-not-enter.true at (c.enter.ensures.told key phase there))

pub returns-clause-tried : goal.returns-clause-tried
returns-clause-tried c = (
  refl,
  has_entered c.args.self.now c.enter.new.self c.args.id _ _ c.enter.ensures.step
      (λ key phase there. rw c.if-not-enter.false at (c.enter.ensures.told key phase there))
      (told_caller _ _ _ (rw c.in-Some.is at c.caller.ensures.known)),
)

pub returns-clause-may_leave : goal.returns-clause-may_leave
returns-clause-may_leave c = let entered = (returns-clause-tried c).1 in
    λ ended back. given_back_running c.enter.new.self (record { caller = c.args.id; key = c.in-Some.key; phase = Running }) (record { caller = ended.caller; key = ended.key; phase = Running }) back entered.running
