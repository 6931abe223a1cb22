use Rattle.std.proofs.Common.{rules}
use Rattle.kf_looks.specs.Rule.{opened}
use Rattle.kf_looks.proofs.Allowed.{sit_allowed}
use Rattle.kf_looks.proofs.lookup_table.LookupTable.looker.Goals as goal

pub load_new_seat-requires : goal.load_new_seat-requires
load_new_seat-requires c = let o = c.args.self.now.table.shared.key in (search rules, sit_allowed _ _ _ (opened o.slots o.version) (search rules))
