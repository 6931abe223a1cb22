-- The searches here are short: if a goal does not hold, its search ends at once.
use Rattle.std.proofs.Common.{rules}
use Rattle.kf_tree.proofs.growth.store.Goals as goal

pub returns-clause-items : goal.returns-clause-items
returns-clause-items c = search rules
