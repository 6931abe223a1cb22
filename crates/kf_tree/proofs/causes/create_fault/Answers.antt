-- The searches here are short: if a goal does not hold, its search ends at once.
use Rattle.std.proofs.Common.{rules}
use Rattle.kf_tree.proofs.causes.create_fault.Goals as goal

pub returns-in-Some-target_fault : goal.returns-in-Some-target_fault
returns-in-Some-target_fault c = search rules

pub returns-then-is_some : goal.returns-then-is_some
returns-then-is_some c = search rules

pub returns : goal.returns
returns c = search rules
