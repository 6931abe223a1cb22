use Rattle.std.proofs.Common.{rules}
use Rattle.kf_notify.proofs.Next.{split_allowed}
use Rattle.kf_notify.proofs.seat.PostSeat.another.Goals as goal

pub split_seat-token-requires : goal.split_seat-token-requires
split_seat-token-requires c = (search rules, search rules, split_allowed _ _ _)
