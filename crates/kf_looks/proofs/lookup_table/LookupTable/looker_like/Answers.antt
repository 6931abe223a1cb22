use Rattle.std.proofs.Common.{rules}
use Rattle.kf_looks.proofs.Allowed.{copy_allowed}
use Rattle.kf_looks.proofs.lookup_table.LookupTable.looker_like.Goals as goal

pub split_seat-requires : goal.split_seat-requires
split_seat-requires c = (search rules, search rules, copy_allowed _ _ _)
