use Rattle.std.proofs.Common.{rules}
use Rattle.kf_text.proofs.Pages.{one_more}
use Rattle.kf_text.proofs.page.emit.Goals as goal

pub loop-part-preserved : goal.loop-part-preserved
loop-part-preserved c = search (rules, one_more)
