use Rattle.kf_notify.proofs.Runs.{opens_well, rule_kept, never_goes_back, none_skipped}
use Rattle.kf_notify.proofs.Greater.{stays_raised, later_is_greater}
use Rattle.kf_notify.proofs.laws.numbers_run.Goals as goal

pub returns-clause-opens_well : goal.returns-clause-opens_well
returns-clause-opens_well c = opens_well

pub returns-clause-rule_kept : goal.returns-clause-rule_kept
returns-clause-rule_kept c = rule_kept

pub returns-clause-never_goes_back : goal.returns-clause-never_goes_back
returns-clause-never_goes_back c = never_goes_back

pub returns-clause-none_skipped : goal.returns-clause-none_skipped
returns-clause-none_skipped c = none_skipped

pub returns-clause-stays_raised : goal.returns-clause-stays_raised
returns-clause-stays_raised c = stays_raised

pub returns-clause-later_is_greater : goal.returns-clause-later_is_greater
returns-clause-later_is_greater c = later_is_greater
