-- The searches here are short: if a goal does not hold, its search ends at once.
use Rattle.std.proofs.Common.{rules}
use Rattle.kf_tree.proofs.canonical.push_hide.Goals as goal

pub returns-else-is_hidden : goal.returns-else-is_hidden
returns-else-is_hidden c = search rules
