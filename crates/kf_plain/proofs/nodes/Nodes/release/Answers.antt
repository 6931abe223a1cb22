use Rattle.std.proofs.Common.{rules}
use Rattle.kf_plain.proofs.Callers.{may_be_released}
use Rattle.kf_plain.proofs.BoardVisits.{tied_slots}
use Rattle.kf_plain.proofs.HiddenMarks.{told_released}
use Rattle.kf_plain.proofs.nodes.Nodes.release.Goals as goal

pub release-requires : goal.release-requires
release-requires c = record { may = may_be_released c.args.self.now c.self.inside.state c.self.inside.world c.args.id c.args.key c.self.view_is c.requires.waits }

pub invariant_of-self : goal.invariant_of-self
invariant_of-self c = (
  tied_slots c.self.inside.state c.self.inside.world.world c.release.new.self.world c.self.invariant.0 (search rules),
  told_released c.self.inside.state.tree c.self.inside.world c.release.new.self c.self.invariant.1 c.args.id c.release.ensures.step,
)
