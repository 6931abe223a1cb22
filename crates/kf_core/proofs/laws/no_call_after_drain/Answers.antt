-- Each world in a run from a safe world is safe, a finished key stays finished, and no generation comes back.
use Rattle.kf_core.proofs.Runs.{bare_safe, doomed_for_good, bare_for_good, bare_passed, step_starts}
use Rattle.kf_core.proofs.laws.no_call_after_drain.Goals as goal

pub returns-clause-safe : goal.returns-clause-safe
returns-clause-safe c = bare_safe

pub returns-clause-marked : goal.returns-clause-marked
returns-clause-marked c = doomed_for_good

pub returns-clause-for_good : goal.returns-clause-for_good
returns-clause-for_good c = bare_for_good

pub returns-clause-passed : goal.returns-clause-passed
returns-clause-passed c = bare_passed

pub returns-clause-starts : goal.returns-clause-starts
returns-clause-starts c w w' event j key step runs = step_starts w event w' step j key runs
