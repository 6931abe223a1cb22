use Rattle.kf_table.proofs.LookUps.{has_child_tells}
use Rattle.kf_table.proofs.table.Table.has_child.Goals as goal

pub returns : goal.returns
returns c = record { known = has_child_tells _ c.requires.lawful.0 c.requires.lawful.1 c.args.dir _ _ c.is_empty.ensures.known c.children.ensures.listed }
