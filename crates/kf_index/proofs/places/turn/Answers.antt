use Rattle.kf_index.specs.Places.{entry_at}
use Rattle.kf_index.proofs.Turned.{map-reverse}
use Rattle.kf_index.proofs.places.turn.Goals as goal

pub returns-clause-turned : goal.returns-clause-turned
returns-clause-turned c = rw c.reverse.ensures.after (map-reverse (entry_at c.args.entries.now) c.args.order.now)
