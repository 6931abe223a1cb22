use Rattle.std.proofs.Common.{◌-◌, vec_len, vec_capacity}
use Rattle.kf_workers.proofs.board.WorkerBoard.keep.Given as goal

-- how many tokens there is still room for
abbrev pub decreases-loop-self : goal.decreases-loop-self
decreases-loop-self g l = vec_capacity l.self.tokens - vec_len l.self.tokens
