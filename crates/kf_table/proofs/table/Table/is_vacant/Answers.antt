use Rattle.kf_table.proofs.Altered.{not_vacant, vacant_within}
use Rattle.kf_table.proofs.table.Table.is_vacant.Goals as goal

pub returns-in-Some : goal.returns-in-Some
returns-in-Some c = record { known = not_vacant _ c.args.slot _ c.in-Some.ensures.known }

pub returns-in-None : goal.returns-in-None
returns-in-None c = record { known = vacant_within _ c.args.slot _ c.len.ensures.known c.in-None.ensures.known }
