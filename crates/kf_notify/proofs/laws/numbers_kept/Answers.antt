-- Each clause about the one run follows from the lemma of the same name.
use Rattle.kf_notify.proofs.Histories.{opens_kept, ends_a_run, seen_leads_here, raised_ever_after, first_or_raised, one_run_is_seen}
use Rattle.kf_notify.proofs.OneEnds.{one_end}
use Rattle.kf_notify.proofs.laws.numbers_kept.Goals as goal

pub returns-clause-opens_kept : goal.returns-clause-opens_kept
returns-clause-opens_kept c = opens_kept

pub returns-clause-ends_a_run : goal.returns-clause-ends_a_run
returns-clause-ends_a_run c = ends_a_run

pub returns-clause-seen_leads_here : goal.returns-clause-seen_leads_here
returns-clause-seen_leads_here c = seen_leads_here

pub returns-clause-raised_ever_after : goal.returns-clause-raised_ever_after
returns-clause-raised_ever_after c = raised_ever_after

pub returns-clause-first_or_raised : goal.returns-clause-first_or_raised
returns-clause-first_or_raised c = first_or_raised

pub returns-clause-one_run_is_seen : goal.returns-clause-one_run_is_seen
returns-clause-one_run_is_seen c = one_run_is_seen

pub returns-clause-one_end : goal.returns-clause-one_end
returns-clause-one_end c = one_end
