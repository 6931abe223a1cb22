use Rattle.std.proofs.Common.{Some, ap, sym, not}
use Rattle.std.specs.Prelude.{◌==◌}
use Rattle.kf_pages.proofs.Visiting.{untouched, same_hold}
use Rattle.kf_pages.proofs.held_file.HeldFile.poll.Goals as goal

pub returns-in-Ok-clause-polls : goal.returns-in-Ok-clause-polls
returns-in-Ok-clause-polls g c = (
  Some c.now-now.result,
  untouched c.in-Ok.call c.enter.new.self
      (rw (← c.self.view_is, same_hold _ c.self.inside.held _ (sym c.in-Some.ensures.value)) c.in-Ok.ensures.tried)
      c.in-Ok.ensures.running
      c.now-now.ensures.given
      (rw (same_hold _ _ _ c.put_back.ensures.there) c.leave-hold.ensures.left),
  rw (← c.self.view_is) (ap (λ n. not (c.now-now.result == n)) c.number.ensures.known),
)
