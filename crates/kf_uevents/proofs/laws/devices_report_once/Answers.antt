use Rattle.kf_uevents.proofs.Once.{added_once, removed_once, never_both}
use Rattle.kf_uevents.proofs.laws.devices_report_once.Goals as goal

pub returns-clause-added_once : goal.returns-clause-added_once
returns-clause-added_once c = added_once

pub returns-clause-removed_once : goal.returns-clause-removed_once
returns-clause-removed_once c = removed_once

pub returns-clause-never_both : goal.returns-clause-never_both
returns-clause-never_both c = never_both
