use Rattle.kf_shared.proofs.Told.{held_master, held_released}
use Rattle.kf_shared.proofs.locked.Locked.show_alone.Goals as goal

pub invariant_of-self-2 : goal.invariant_of-self-2
invariant_of-self-2 g c =
    let s = c.self-2.inside.state in
    let m = c.note_released.new.master in
    let claims = c.self-2.inside.claims.items in
    held_master g.N.Naming.table s m c.meet.new.self claims (held_released g.N.Naming.table s c.self-2.inside.master m claims c.self-2.invariant c.note_released.ensures) c.meet.ensures.kept
