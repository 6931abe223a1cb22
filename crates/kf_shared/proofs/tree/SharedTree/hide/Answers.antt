use Rattle.kf_shared.proofs.Alone.{hidden_alone}
use Rattle.kf_shared.proofs.Hidings.{file_hidden, hiding_refused}
use Rattle.kf_shared.proofs.tree.SharedTree.hide.Goals as goal

pub returns-clause-alone : goal.returns-clause-alone
returns-clause-alone g c = hidden_alone g.N.Naming.table c.edit.result c.edit.ensures.whole c.edit.ensures.taken c.hide_and_wait.result c.args.hold c.hide_and_wait.ensures.alone c.hide_and_wait.ensures.no_cause

pub returns-clause-file : goal.returns-clause-file
returns-clause-file g c = file_hidden c.edit.result.state.tree c.args.hold c.hide_and_wait.result c.hide_and_wait.ensures.no_cause

pub returns-clause-refused : goal.returns-clause-refused
returns-clause-refused g c = hiding_refused c.edit.result.state.tree c.args.hold c.hide_and_wait.result c.hide_and_wait.ensures.refused
