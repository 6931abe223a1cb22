-- The end of the call is one event, and after it the caller may try again.
use Rattle.std.proofs.Common.{refl}
use Rattle.kf_core.specs.declared.caller.Phase.TheVariants.{Running}
use Rattle.kf_world.proofs.WorldVisits.{may_leave, may_enter_after}
use Rattle.kf_world.proofs.world_guard.WorldGuard.leave.Goals as goal

pub leave-requires : goal.leave-requires
leave-requires c = record { may = may_leave c.args.self.now c.args.call.caller c.args.call.key Running c.requires.may_leave refl }

pub returns-clause-may_enter : goal.returns-clause-may_enter
returns-clause-may_enter c = may_enter_after c.args.self.now c.leave.new.self c.args.call.caller c.args.call.key Running c.requires.may_leave c.leave.ensures.step
