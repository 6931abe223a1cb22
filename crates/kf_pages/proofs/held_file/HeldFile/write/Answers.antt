use Rattle.std.proofs.Common.{rules, Some, sym, refl}
use Rattle.kf_pages.proofs.Visiting.{called, same_hold}
use Rattle.kf_pages.proofs.Writing.{Writes-visit}
use Rattle.kf_pages.proofs.held_file.HeldFile.write.Goals as goal

pub returns-in_err-stored-in-Ok-clause-writes : goal.returns-in_err-stored-in-Ok-clause-writes
returns-in_err-stored-in-Ok-clause-writes g c =
    Writes-visit _ _ _ (Some c.store_front-stored.result) (rw (← c.self.view_is, ← c.want.ensures.known) c.if-not-want.false)
    (called c.in-Ok.call c.store_front-stored.new.call c.enter.new.self
    (rw (← c.self.view_is, same_hold _ c.self.inside.held _ (sym c.in-Some.ensures.value)) c.in-Ok.ensures.tried)
    c.in-Ok.ensures.running
    (rw (← c.self.view_is) c.store_front-stored.ensures.stored)
    c.store_front-stored.ensures.call
    (rw (same_hold _ _ _ c.put_back.ensures.there) c.leave-hold.ensures.left))
    (rw c.in_err-stored-in-Ok.was (search rules))

pub returns-in_ok-stored-in-Ok-clause-writes : goal.returns-in_ok-stored-in-Ok-clause-writes
returns-in_ok-stored-in-Ok-clause-writes g c =
    Writes-visit _ _ _ (Some c.store_front-stored.result) (rw (← c.self.view_is, ← c.want.ensures.known) c.if-not-want.false)
    (called c.in-Ok.call c.store_front-stored.new.call c.enter.new.self
    (rw (← c.self.view_is, same_hold _ c.self.inside.held _ (sym c.in-Some.ensures.value)) c.in-Ok.ensures.tried)
    c.in-Ok.ensures.running
    (rw (← c.self.view_is) c.store_front-stored.ensures.stored)
    c.store_front-stored.ensures.call
    (rw (same_hold _ _ _ c.put_back.ensures.there) c.leave-hold.ensures.left))
    (rw c.in_ok-stored-in-Ok.was refl)
