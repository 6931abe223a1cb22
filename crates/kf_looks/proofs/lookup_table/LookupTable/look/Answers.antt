use Rattle.std.proofs.Common.{◌∙◌}
use Rattle.kf_looks.specs.Lookers.{seen}
use Rattle.kf_looks.proofs.Allowed.{later_again}
use Rattle.kf_looks.proofs.lookup_table.LookupTable.look.Goals as goal

pub returns-in-Ok-clause-later : goal.returns-in-Ok-clause-later
returns-in-Ok-clause-later c = later_again _ (seen c.loop.looker) _ c.look_once.ensures.later c.loop.invariant.later

pub returns-in-Err-NotThere-clause-later : goal.returns-in-Err-NotThere-clause-later
returns-in-Err-NotThere-clause-later c = later_again _ (seen c.loop.looker) _ c.look_once.ensures.later c.loop.invariant.later

pub loop-preserved : goal.loop-preserved
loop-preserved c = record {
  table = c.look_once.ensures.table ∙ c.loop.invariant.table;
  later = later_again _ (seen c.loop.looker) _ c.look_once.ensures.later c.loop.invariant.later;
}
