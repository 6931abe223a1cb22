use Rattle.kf_notify.proofs.Runs.{never_below, never_below_the_first}
use Rattle.kf_notify.proofs.laws.numbers_tell.Goals as goal

pub returns-clause-never_below : goal.returns-clause-never_below
returns-clause-never_below c = never_below

pub returns-clause-never_below_the_first : goal.returns-clause-never_below_the_first
returns-clause-never_below_the_first c = never_below_the_first
