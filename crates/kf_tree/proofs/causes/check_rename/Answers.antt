-- The searches here are short: if a goal does not hold, its search ends at once.
use Rattle.std.proofs.Common.{rules}
use Rattle.kf_tree.proofs.causes.check_rename.Goals as goal

pub returns-then-is_below : goal.returns-then-is_below
returns-then-is_below c = search rules

pub returns-then-is_some : goal.returns-then-is_some
returns-then-is_some c = search rules

pub returns : goal.returns
returns c = search rules
