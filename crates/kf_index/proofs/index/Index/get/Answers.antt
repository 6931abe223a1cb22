use Rattle.kf_index.proofs.Mapped.{got}
use Rattle.kf_index.proofs.index.Index.get.Goals as goal

pub returns : goal.returns
returns c = rw (← c.self.view_is) (record { found = got _ _ _ c.self.invariant c.get.ensures.found c.get.ensures.absent })
