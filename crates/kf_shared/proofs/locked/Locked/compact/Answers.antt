use Rattle.kf_shared.proofs.Told.{held_compacted}
use Rattle.kf_shared.proofs.locked.Locked.compact.Goals as goal

pub invariant_of-self-2 : goal.invariant_of-self-2
invariant_of-self-2 g c =
    held_compacted g.N.Naming.table c.self.inside.state c.compact.new.self c.self.inside.master c.note_compaction.new.master c.self.inside.claims.items c.self.invariant c.in_ok-compact.ensures.compacted c.compact.ensures.untold c.note_compaction.ensures
