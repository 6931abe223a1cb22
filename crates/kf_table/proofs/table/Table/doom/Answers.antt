use Rattle.kf_core.specs.Commands.{doomed_record}
use Rattle.kf_table.proofs.KeptMarks.{kept_changed, doomed_stays}
use Rattle.kf_table.proofs.table.Table.doom.Goals as goal

pub invariant_of-self : goal.invariant_of-self
invariant_of-self c = rw c.doom.ensures.changed (kept_changed doomed_record doomed_stays _ _ c.self.invariant c.args.slot)
