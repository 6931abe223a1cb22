-- The searches here are short: if a goal does not hold, its search ends at once.
use Rattle.std.proofs.Common.{rules}
use Rattle.kf_script.proofs.rows.write.Goals as goal

pub returns-clause-value : goal.returns-clause-value
returns-clause-value c = search rules
