-- The searches here are short: if a goal does not hold, its search ends at once.
use Rattle.std.proofs.Common.{rules}
use Rattle.kf_script.proofs.reply.Reply.write_line.Goals as goal

pub returns-clause-written : goal.returns-clause-written
returns-clause-written g c = search rules

pub returns-clause-whole : goal.returns-clause-whole
returns-clause-whole g c = search rules
