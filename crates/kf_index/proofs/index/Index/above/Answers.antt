use Rattle.kf_index.proofs.Mapped.{listed}
use Rattle.kf_index.proofs.index.Index.above.Goals as goal

pub returns : goal.returns
returns c = rw (← c.self.view_is) (record { listed = listed _ c.self.invariant _ _ c.above.ensures.first })
