use Rattle.kf_shared.proofs.Told.{held_master}
use Rattle.kf_shared.proofs.locked.Locked.full_or_no_memory.Goals as goal

pub invariant_of-self : goal.invariant_of-self
invariant_of-self g c =
    held_master g.N.Naming.table c.self.inside.state c.self.inside.master c.full_or_no_memory.new.master c.self.inside.claims.items c.self.invariant c.full_or_no_memory.ensures.kept
