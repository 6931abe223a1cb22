use Rattle.kf_shared.proofs.Told.{held_claimed}
use Rattle.kf_shared.proofs.locked.Locked.claim.Goals as goal

pub invariant_of-self : goal.invariant_of-self
invariant_of-self g c =
    held_claimed g.N.Naming.table c.self.inside.state c.self.inside.master c.note_claim.new.master c.self.inside.claims.items c.put_claim-first.new.claims.items c.args.key c.self.invariant c.put_claim-first.ensures.claimed c.note_claim.ensures
