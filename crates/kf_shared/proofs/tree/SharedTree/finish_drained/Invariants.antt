use Rattle.kf_shared.proofs.Finishing.{IsWaiting}
use Rattle.kf_shared.proofs.tree.SharedTree.finish_drained.Given as goal

abbrev pub invariant-loop : goal.invariant-loop
invariant-loop g l = IsWaiting l.fn.drained l.drained
