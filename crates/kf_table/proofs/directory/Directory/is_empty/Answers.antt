use Rattle.std.proofs.Common.{◌∙◌, sym}
use Rattle.kf_table.proofs.Boxes.{childless, with_children}
use Rattle.kf_table.proofs.directory.Directory.is_empty.Goals as goal

pub returns-then-len-eq0 : goal.returns-then-len-eq0
returns-then-len-eq0 c = record { known = childless c.args.self.now (sym c.len.ensures.known ∙ c.if-len-eq0.true) }

pub returns-else-len-eq0 : goal.returns-else-len-eq0
returns-else-len-eq0 c = record { known = with_children c.args.self.now c.len.result c.len.ensures.known c.if-len-eq0.false }
