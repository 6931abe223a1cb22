use Rattle.std.proofs.Common.{rules, Some, sym, refl}
use Rattle.kf_pages.proofs.Visiting.{called, same_hold}
use Rattle.kf_pages.proofs.Offsets.{reads-visit}
use Rattle.kf_pages.proofs.held_file.HeldFile.read_at.Goals as goal

pub returns-in_err-read-in-Ok-clause-reads : goal.returns-in_err-read-in-Ok-clause-reads
returns-in_err-read-in-Ok-clause-reads g c =
    reads-visit _ _ _ _ (Some (record { number = c.read_at-read.new.self.number; answer = c.read_at-read.result }))
    (rw (← c.self.view_is, ← c.want.ensures.known) c.if-not-want.false)
    (called c.in-Ok.call c.read_at-read.new.call c.enter.new.self
    (rw (← c.self.view_is, same_hold _ c.self.inside.held _ (sym c.in-Some.ensures.value)) c.in-Ok.ensures.tried)
    c.in-Ok.ensures.running
    (rw (← c.self.view_is) (c.read_at-read.ensures.given, c.read_at-read.ensures.read))
    c.read_at-read.ensures.call
    (rw (same_hold _ _ _ c.put_back.ensures.there) c.leave-hold.ensures.left))
    (rw c.in_err-read-in-Ok.was (search rules))
    (rw (← c.self.view_is) c.read_at-read.ensures.kept)

pub returns-in_ok-read-in-Ok-clause-reads : goal.returns-in_ok-read-in-Ok-clause-reads
returns-in_ok-read-in-Ok-clause-reads g c =
    reads-visit _ _ _ _ (Some (record { number = c.read_at-read.new.self.number; answer = c.read_at-read.result }))
    (rw (← c.self.view_is, ← c.want.ensures.known) c.if-not-want.false)
    (called c.in-Ok.call c.read_at-read.new.call c.enter.new.self
    (rw (← c.self.view_is, same_hold _ c.self.inside.held _ (sym c.in-Some.ensures.value)) c.in-Ok.ensures.tried)
    c.in-Ok.ensures.running
    (rw (← c.self.view_is) (c.read_at-read.ensures.given, c.read_at-read.ensures.read))
    c.read_at-read.ensures.call
    (rw (same_hold _ _ _ c.put_back.ensures.there) c.leave-hold.ensures.left))
    (rw c.in_ok-read-in-Ok.was refl)
    (rw (← c.self.view_is) c.read_at-read.ensures.kept)
