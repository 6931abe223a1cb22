use Rattle.std.proofs.Common.{rules}
use Rattle.kf_looks.proofs.Allowed.{peek_allowed}
use Rattle.kf_looks.proofs.lookup_table.LookupTable.word.Goals as goal

pub load-requires : goal.load-requires
load-requires c = (search rules, search rules, peek_allowed _ _ _ _ _ (search rules))
