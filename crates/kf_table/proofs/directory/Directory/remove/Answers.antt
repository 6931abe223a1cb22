-- The searches here are short: if a goal does not hold, its search ends at once.
use Rattle.std.proofs.Common.{rules}
use Rattle.kf_table.proofs.directory.Directory.remove.Goals as goal

pub returns-then-is_subdir : goal.returns-then-is_subdir
returns-then-is_subdir c = search rules
