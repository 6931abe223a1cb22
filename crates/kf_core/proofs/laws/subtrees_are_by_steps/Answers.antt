use Rattle.kf_core.proofs.Ancestors.{in_subtree_is_below}
use Rattle.kf_core.proofs.laws.subtrees_are_by_steps.Goals as goal

pub returns : goal.returns
returns c = record { by_steps = in_subtree_is_below }
