-- The searches here are short: if a goal does not hold, its search ends at once.
use Rattle.std.proofs.Common.{rules}
use Rattle.kf_index.proofs.name.Name.new.Goals as goal

pub returns-in-Err-clause-short : goal.returns-in-Err-clause-short
returns-in-Err-clause-short c = search rules
