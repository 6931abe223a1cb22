use Rattle.std.proofs.Common.{rules}
use Rattle.kf_looks.proofs.Allowed.{tell_allowed}
use Rattle.kf_looks.proofs.lookup_table.LookupTable.tell.Goals as goal

pub split_seat-requires : goal.split_seat-requires
split_seat-requires c = (search rules, search rules, tell_allowed _ _ _ c.requires.writes)
