use Rattle.std.proofs.Common.{rules}
use Rattle.kf_looks.proofs.Allowed.{put_allowed}
use Rattle.kf_looks.proofs.lookup_table.LookupTable.put.Goals as goal

pub store-requires : goal.store-requires
store-requires c = (search rules, search rules, put_allowed _ _ _ _ _ _ (search rules) c.requires.writes c.requires.odd)
