-- The clauses about runs of the words: each follows from the lemma of its name.
use Rattle.kf_words.proofs.Runs.{opens_well, rule_kept, run_is_run, held_is_named, run_is_safe, marked_keeps_out, drained_for_good, hidden_keeps_out, passed_for_good, born_unheld, let_in_live, taken_live}
use Rattle.kf_words.proofs.Wakes.{sleepers_are_found}
use Rattle.kf_words.proofs.laws.words_run.Goals as goal

pub returns-clause-opens_well : goal.returns-clause-opens_well
returns-clause-opens_well c = opens_well

pub returns-clause-rule_kept : goal.returns-clause-rule_kept
returns-clause-rule_kept c = rule_kept

pub returns-clause-run_is_run : goal.returns-clause-run_is_run
returns-clause-run_is_run c = run_is_run

pub returns-clause-held_is_named : goal.returns-clause-held_is_named
returns-clause-held_is_named c = held_is_named

pub returns-clause-run_is_safe : goal.returns-clause-run_is_safe
returns-clause-run_is_safe c = run_is_safe

pub returns-clause-marked_keeps_out : goal.returns-clause-marked_keeps_out
returns-clause-marked_keeps_out c = marked_keeps_out

pub returns-clause-drained_for_good : goal.returns-clause-drained_for_good
returns-clause-drained_for_good c = drained_for_good

pub returns-clause-hidden_keeps_out : goal.returns-clause-hidden_keeps_out
returns-clause-hidden_keeps_out c = hidden_keeps_out

pub returns-clause-passed_for_good : goal.returns-clause-passed_for_good
returns-clause-passed_for_good c = passed_for_good

pub returns-clause-born_unheld : goal.returns-clause-born_unheld
returns-clause-born_unheld c = born_unheld

pub returns-clause-let_in_live : goal.returns-clause-let_in_live
returns-clause-let_in_live c = let_in_live

pub returns-clause-taken_live : goal.returns-clause-taken_live
returns-clause-taken_live c = taken_live

pub returns-clause-sleepers_are_found : goal.returns-clause-sleepers_are_found
returns-clause-sleepers_are_found c = sleepers_are_found
