use Rattle.kf_shared.proofs.Told.{held_taken}
use Rattle.kf_shared.proofs.locked.Locked.begin_section.Goals as goal

pub invariant_of-self : goal.invariant_of-self
invariant_of-self g c = held_taken g.N.Naming.table c.self.inside.state c.self.inside.master c.note_taken.new.master c.self.inside.claims.items c.self.invariant c.note_taken.ensures
