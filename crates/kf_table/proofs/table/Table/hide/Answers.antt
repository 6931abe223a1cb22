use Rattle.std.proofs.Common.{true}
use Rattle.kf_core.specs.Commands.{hidden_record}
use Rattle.kf_table.proofs.KeptMarks.{kept_changed, hidden_stays}
use Rattle.kf_table.proofs.table.Table.hide.Goals as goal

pub invariant_of-self : goal.invariant_of-self
invariant_of-self c = rw c.set_hidden.ensures.changed (kept_changed (hidden_record true) (hidden_stays true) _ _ c.self.invariant c.args.slot)
