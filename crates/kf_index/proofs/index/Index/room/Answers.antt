-- The search here is short: if the goal does not hold, the search ends at once.
use Rattle.std.proofs.Common.{arith}
use Rattle.kf_index.proofs.Edited.{len_of_rising}
use Rattle.kf_index.proofs.index.Index.room.Goals as goal

pub returns-clause-enough : goal.returns-clause-enough
returns-clause-enough c = grind (arith, len_of_rising)
