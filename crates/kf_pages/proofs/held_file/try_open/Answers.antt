use Rattle.std.proofs.Common.{Some, refl}
use Rattle.kf_pages.proofs.Visiting.{untouched, opens_file}
use Rattle.kf_pages.proofs.held_file.try_open.Goals as goal

pub returns-then-not-allows-clause-opens : goal.returns-then-not-allows-clause-opens
returns-then-not-allows-clause-opens g c =
    opens_file _ _ _ c.in-File.mode c.in-File.tag (Some tt) _ c.in-File.is
    (untouched c.in-Ok.call c.enter.new.self c.in-Ok.ensures.tried c.in-Ok.ensures.running tt c.leave-hold.ensures.left)
    (rw (← c.allows.ensures.told) (rw c.if-not-allows.true refl))

pub returns-clause-opens : goal.returns-clause-opens
returns-clause-opens g c =
    opens_file _ _ _ c.in-File.mode c.in-File.tag (Some tt) _ c.in-File.is
    (untouched c.in-Ok.call c.enter.new.self c.in-Ok.ensures.tried c.in-Ok.ensures.running tt c.leave-hold.ensures.left)
    (rw (← c.allows.ensures.told) (rw c.if-not-allows.false refl))
