use Rattle.kf_handles.proofs.Ends.{shown_or_not}
use Rattle.kf_handles.proofs.removal.unhide_first.Goals as goal

pub returns-clause-ends : goal.returns-clause-ends
returns-clause-ends g c =
    shown_or_not c.args.locked.now c.unhide-reply.new.locked c.args.tokens.now.items c.unhide-reply.new.tokens.items c.args.key
    c.unhide-reply.result c.unhide-reply.ensures.told
