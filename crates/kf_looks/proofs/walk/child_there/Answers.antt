use Rattle.std.proofs.Common.{rules}
use Rattle.kf_looks.proofs.walk.child_there.Goals as goal

pub returns-clause-dir : goal.returns-clause-dir
returns-clause-dir c = search rules

pub returns-clause-name : goal.returns-clause-name
returns-clause-name c = search rules

pub returns-clause-child : goal.returns-clause-child
returns-clause-child c = search rules
