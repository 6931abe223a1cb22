use Rattle.std.proofs.Common.{rules}
use Rattle.kf_handles.proofs.Ends.{is_told}
use Rattle.kf_handles.proofs.marking.is_marked.Goals as goal

pub returns-in-Ok-clause-linked : goal.returns-in-Ok-clause-linked
returns-in-Ok-clause-linked g c = is_told c.args.locked.now.state.tree c.args.key c.in-Ok.stat (search rules)
