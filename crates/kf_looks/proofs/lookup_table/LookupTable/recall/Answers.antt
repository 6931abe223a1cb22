use Rattle.std.proofs.Common.{rules}
use Rattle.kf_looks.proofs.Allowed.{recall_allowed}
use Rattle.kf_looks.proofs.lookup_table.LookupTable.recall.Goals as goal

pub load-requires : goal.load-requires
load-requires c = (search rules, search rules, recall_allowed _ _ _ _ _ (search rules) c.requires.writes)
