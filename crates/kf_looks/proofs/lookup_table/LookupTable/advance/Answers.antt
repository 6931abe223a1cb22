use Rattle.std.proofs.Common.{rules}
use Rattle.kf_looks.proofs.Allowed.{move_allowed}
use Rattle.kf_looks.proofs.lookup_table.LookupTable.advance.Goals as goal

pub store-requires : goal.store-requires
store-requires c = (search rules, search rules, move_allowed _ _ _ _ _ c.requires.writes c.requires.next (search rules))
