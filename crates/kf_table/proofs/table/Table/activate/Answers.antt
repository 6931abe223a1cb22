use Rattle.kf_table.specs.Changes.{activated_unless_doomed}
use Rattle.kf_table.proofs.KeptMarks.{kept_changed, activated_stays}
use Rattle.kf_table.proofs.table.Table.activate.Goals as goal

pub invariant_of-self : goal.invariant_of-self
invariant_of-self c = rw c.activate.ensures.changed (kept_changed activated_unless_doomed activated_stays _ _ c.self.invariant c.args.slot)
