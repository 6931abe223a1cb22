-- Past the last slot the counts are 0.
use Rattle.std.proofs.Common.{ap, sym, ◌∙◌}
use Rattle.kf_world.specs.Bounded.{BoundedWorld, holds}
use Rattle.kf_world.specs.Counts.{references, hiders}
use Rattle.kf_world.proofs.Kept.{past_kept}
use Rattle.kf_core.proofs.Lists.{past_end}
use Rattle.kf_world.proofs.world.World.counts_of.Goals as goal

pub returns-in-None-clause-holds : goal.returns-in-None-clause-holds
returns-in-None-clause-holds c =
    (past_kept _ _ _ c.args.slot c.self.invariant (past_end _ _ (sym c.get.ensures.known ∙ c.in-None.is))).0 ∙ ap (λ (b : BoundedWorld). holds b.world c.args.slot) c.self.view_is

pub returns-in-None-clause-references : goal.returns-in-None-clause-references
returns-in-None-clause-references c =
    (past_kept _ _ _ c.args.slot c.self.invariant (past_end _ _ (sym c.get.ensures.known ∙ c.in-None.is))).1 ∙ ap (λ (b : BoundedWorld). references b.world c.args.slot) c.self.view_is

pub returns-in-None-clause-hiders : goal.returns-in-None-clause-hiders
returns-in-None-clause-hiders c =
    (past_kept _ _ _ c.args.slot c.self.invariant (past_end _ _ (sym c.get.ensures.known ∙ c.in-None.is))).2 ∙ ap (λ (b : BoundedWorld). hiders b.world c.args.slot) c.self.view_is
