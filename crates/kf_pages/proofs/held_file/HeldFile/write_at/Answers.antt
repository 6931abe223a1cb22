use Rattle.std.proofs.Common.{rules, Some, sym, refl}
use Rattle.kf_pages.proofs.Visiting.{called, same_hold}
use Rattle.kf_pages.proofs.Writing.{Writes-visit}
use Rattle.kf_pages.proofs.held_file.HeldFile.write_at.Goals as goal

pub returns-in_err-written-in-Ok-clause-writes : goal.returns-in_err-written-in-Ok-clause-writes
returns-in_err-written-in-Ok-clause-writes g c =
    Writes-visit _ _ _ (Some c.write_some-written.result) (rw (← c.self.view_is, ← c.want.ensures.known) c.if-not-want.false)
    (called c.in-Ok.call c.write_some-written.new.call c.enter.new.self
    (rw (← c.self.view_is, same_hold _ c.self.inside.held _ (sym c.in-Some.ensures.value)) c.in-Ok.ensures.tried)
    c.in-Ok.ensures.running
    (rw (← c.self.view_is) c.write_some-written.ensures.written)
    c.write_some-written.ensures.call
    (rw (same_hold _ _ _ c.put_back.ensures.there) c.leave-hold.ensures.left))
    (rw c.in_err-written-in-Ok.was (search rules))

pub returns-in_ok-written-in-Ok-clause-writes : goal.returns-in_ok-written-in-Ok-clause-writes
returns-in_ok-written-in-Ok-clause-writes g c =
    Writes-visit _ _ _ (Some c.write_some-written.result) (rw (← c.self.view_is, ← c.want.ensures.known) c.if-not-want.false)
    (called c.in-Ok.call c.write_some-written.new.call c.enter.new.self
    (rw (← c.self.view_is, same_hold _ c.self.inside.held _ (sym c.in-Some.ensures.value)) c.in-Ok.ensures.tried)
    c.in-Ok.ensures.running
    (rw (← c.self.view_is) c.write_some-written.ensures.written)
    c.write_some-written.ensures.call
    (rw (same_hold _ _ _ c.put_back.ensures.there) c.leave-hold.ensures.left))
    (rw c.in_ok-written-in-Ok.was refl)
