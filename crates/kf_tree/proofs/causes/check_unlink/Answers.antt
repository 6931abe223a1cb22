-- The searches here are short: if a goal does not hold, its search ends at once.
use Rattle.std.proofs.Common.{rules}
use Rattle.kf_tree.proofs.causes.check_unlink.Goals as goal

pub returns-then-has_child : goal.returns-then-has_child
returns-then-has_child c = search rules

pub returns : goal.returns
returns c = search rules
