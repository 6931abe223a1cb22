-- The last seat is the new one, and its board has the tags that it was made with.
use Rattle.std.proofs.Common.{rules}
use Rattle.kf_workers.proofs.run.add_seat.Goals as goal

pub returns-in-Ok-clause-own : goal.returns-in-Ok-clause-own
returns-in-Ok-clause-own g c = (c.new-3.result, c.in-Ok.ensures.items, (rw c.new-3.ensures.made (rw c.in_ok-board.ensures.tags (search rules)), rw c.new-3.ensures.made (rw c.in_ok-board.ensures.tags (search rules))))
