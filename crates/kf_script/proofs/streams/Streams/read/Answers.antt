-- The searches here are short: if a goal does not hold, its search ends at once.
use Rattle.std.proofs.Common.{rules}
use Rattle.kf_script.proofs.streams.Streams.read.Goals as goal

pub returns-in-Ok-clause-counted : goal.returns-in-Ok-clause-counted
returns-in-Ok-clause-counted g c = search rules

pub returns-in-Err-clause-counted : goal.returns-in-Err-clause-counted
returns-in-Err-clause-counted g c = search rules
