-- Each world in a run is safe, and a finished key stays finished.
use Rattle.kf_core.specs.Worlds.{bare}
use Rattle.kf_core.proofs.Hiding.{hider_not_live}
use Rattle.kf_core.proofs.Runs.{run_safe, finished_for_good, marked_for_good}
use Rattle.kf_core.proofs.laws.no_call_after_removal.Goals as goal

pub returns-clause-none_running : goal.returns-clause-none_running
returns-clause-none_running c slots start events w r = (run_safe slots start events w r).none_running

pub returns-clause-doomed : goal.returns-clause-doomed
returns-clause-doomed c slots start events w r = (run_safe slots start events w r).drain_doomed

pub returns-clause-gone : goal.returns-clause-gone
returns-clause-gone c slots start events w r = (run_safe slots start events w r).parted_gone

pub returns-clause-linked : goal.returns-clause-linked
returns-clause-linked c slots start events w r = (run_safe slots start events w r).running_linked

pub returns-clause-hidden : goal.returns-clause-hidden
returns-clause-hidden c slots start events w r d key phase there hiding = (hider_not_live (bare w) d key phase there hiding, (run_safe slots start events w r).one_hides d key phase there hiding)

pub returns-clause-marked : goal.returns-clause-marked
returns-clause-marked c count start before later u v w key r = marked_for_good later u v w key

pub returns-clause-for_good : goal.returns-clause-for_good
returns-clause-for_good c = finished_for_good
