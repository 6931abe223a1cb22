use Rattle.std.proofs.Common.{sym}
use Rattle.kf_tree.proofs.Over.{parent_linked}
use Rattle.kf_tree.proofs.links.over_target.Goals as goal

pub returns-in-Some-clause-linked : goal.returns-in-Some-clause-linked
returns-in-Some-clause-linked c = parent_linked c.args.table.now c.args.root c.requires.rooted c.args.target c.in-Some.parent (sym c.in-Some.ensures.known)
