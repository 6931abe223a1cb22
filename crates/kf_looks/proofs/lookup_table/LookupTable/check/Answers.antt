use Rattle.std.proofs.Common.{rules}
use Rattle.kf_looks.proofs.Allowed.{check_allowed}
use Rattle.kf_looks.proofs.lookup_table.LookupTable.check.Goals as goal

pub load-requires : goal.load-requires
load-requires c = (search rules, search rules, check_allowed _ _ _ _)
