-- The searches here are short: if a goal does not hold, its search ends at once.
use Rattle.std.proofs.Common.{rules}
use Rattle.kf_tree.proofs.stat.stat_of.Goals as goal

pub returns : goal.returns
returns c = search rules
