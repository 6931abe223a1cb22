use Rattle.std.proofs.Common.{false}
use Rattle.kf_core.specs.Commands.{hidden_record}
use Rattle.kf_table.proofs.KeptMarks.{kept_changed, hidden_stays}
use Rattle.kf_table.proofs.table.Table.show.Goals as goal

pub invariant_of-self : goal.invariant_of-self
invariant_of-self c = rw c.set_hidden.ensures.changed (kept_changed (hidden_record false) (hidden_stays false) _ _ c.self.invariant c.args.slot)
