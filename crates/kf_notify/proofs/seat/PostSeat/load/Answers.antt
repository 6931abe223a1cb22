use Rattle.std.proofs.Common.{rules}
use Rattle.kf_notify.proofs.Next.{load_made}
use Rattle.kf_notify.proofs.seat.PostSeat.load.Goals as goal

pub load-requires : goal.load-requires
load-requires c = (search rules, search rules, load_made _ _ _ _ _ (search rules))
