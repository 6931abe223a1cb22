use Rattle.std.proofs.Common.{rules}
use Rattle.kf_looks.proofs.Allowed.{begin_allowed}
use Rattle.kf_looks.proofs.lookup_table.LookupTable.begin.Goals as goal

pub load-requires : goal.load-requires
load-requires c = (search rules, search rules, begin_allowed _ _ _ _)
