use Rattle.std.proofs.Common.{Some, sym}
use Rattle.kf_pages.proofs.Visiting.{called, same_hold}
use Rattle.kf_pages.proofs.held_file.HeldFile.show.Goals as goal

pub returns-clause-shows : goal.returns-clause-shows
returns-clause-shows g c = record {
  came = Some (record { number = c.show-shown.new.self.number; filled = c.show-shown.ensures.shown.0 });
  visit = called c.in-Ok.call c.show-shown.new.call c.enter.new.self
      (rw (← c.self.view_is, same_hold _ c.self.inside.held _ (sym c.in-Some.ensures.value)) c.in-Ok.ensures.tried)
      c.in-Ok.ensures.running
      (rw (← c.self.view_is) (c.show-shown.ensures.given, c.show-shown.ensures.shown.1))
      c.show-shown.ensures.call
      (rw (same_hold _ _ _ c.put_back-2.ensures.there) c.leave-hold.ensures.left);
  answer = c.show-shown.ensures.shown.3;
  keeps = rw (← c.self.view_is) c.show-shown.ensures.shown.2;
}
