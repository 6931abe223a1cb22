use Rattle.kf_handles.proofs.Ends.{unlinked_or_not}
use Rattle.kf_handles.proofs.removal.unlink.Goals as goal

pub returns-in-Ok : goal.returns-in-Ok
returns-in-Ok g c = unlinked_or_not c.args.locked.now c.unlink.new.self c.args.hold.key c.in-Ok.drained.key c.unlink.result
    c.in-Ok.ensures.same.key c.unlink.ensures.accepted c.unlink.ensures.refused c.unlink.ensures.claims
