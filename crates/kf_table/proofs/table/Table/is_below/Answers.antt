-- The searches here are short: if a goal does not hold, its search ends at once.
use Rattle.std.proofs.Common.{rules}
use Rattle.kf_table.proofs.table.Table.is_below.Goals as goal

pub returns-then-eq : goal.returns-then-eq
returns-then-eq c = search rules
