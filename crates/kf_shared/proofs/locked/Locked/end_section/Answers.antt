use Rattle.kf_shared.proofs.Told.{held_released}
use Rattle.kf_shared.proofs.locked.Locked.end_section.Goals as goal

pub invariant_of-self : goal.invariant_of-self
invariant_of-self g c = held_released g.N.Naming.table c.self.inside.state c.self.inside.master c.note_released.new.master c.self.inside.claims.items c.self.invariant c.note_released.ensures
