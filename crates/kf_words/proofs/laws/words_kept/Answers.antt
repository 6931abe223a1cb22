-- The clauses about the one run: each follows from the lemma of its name.
use Rattle.kf_words.proofs.Histories.{ends_a_run, seen_leads_here, drained_ever_after, one_run_is_seen, history_is_seen, one_history, notes_stay}
use Rattle.kf_words.proofs.OneEnds.{one_end}
use Rattle.kf_words.proofs.NodeWords.{read_as_born}
use Rattle.kf_words.proofs.NodeReads.{read_is_born}
use Rattle.kf_words.proofs.laws.words_kept.Goals as goal

pub returns-clause-ends_a_run : goal.returns-clause-ends_a_run
returns-clause-ends_a_run c = ends_a_run

pub returns-clause-seen_leads_here : goal.returns-clause-seen_leads_here
returns-clause-seen_leads_here c = seen_leads_here

pub returns-clause-one_run_is_seen : goal.returns-clause-one_run_is_seen
returns-clause-one_run_is_seen c = one_run_is_seen

pub returns-clause-one_end : goal.returns-clause-one_end
returns-clause-one_end c = one_end

pub returns-clause-drained_ever_after : goal.returns-clause-drained_ever_after
returns-clause-drained_ever_after c = drained_ever_after

pub returns-clause-history_is_seen : goal.returns-clause-history_is_seen
returns-clause-history_is_seen c = history_is_seen

pub returns-clause-one_history : goal.returns-clause-one_history
returns-clause-one_history c = one_history

pub returns-clause-notes_stay : goal.returns-clause-notes_stay
returns-clause-notes_stay c = notes_stay

pub returns-clause-read_as_born : goal.returns-clause-read_as_born
returns-clause-read_as_born c = read_as_born

pub returns-clause-read_is_born : goal.returns-clause-read_is_born
returns-clause-read_is_born c = read_is_born
