-- The clauses of the running tree: each follows from the lemma of its name.
use Rattle.kf_shared.proofs.Running.{starts_well, is_replay, is_of_history, tree_agrees, starts_live, taken_while_live, runs_linked, marked_for_good, removed_for_good, parted_for_good, hidden_is_still, held_not_given, held_is_last, gone_for_good}
use Rattle.kf_shared.proofs.laws.running_tree.Goals as goal

pub returns-clause-starts_well : goal.returns-clause-starts_well
returns-clause-starts_well c = starts_well

pub returns-clause-is_of_history : goal.returns-clause-is_of_history
returns-clause-is_of_history c = is_of_history

pub returns-clause-is_replay : goal.returns-clause-is_replay
returns-clause-is_replay c = is_replay

pub returns-clause-tree_agrees : goal.returns-clause-tree_agrees
returns-clause-tree_agrees c = tree_agrees

pub returns-clause-starts_live : goal.returns-clause-starts_live
returns-clause-starts_live c = starts_live

pub returns-clause-taken_while_live : goal.returns-clause-taken_while_live
returns-clause-taken_while_live c = taken_while_live

pub returns-clause-runs_linked : goal.returns-clause-runs_linked
returns-clause-runs_linked c = runs_linked

pub returns-clause-marked_for_good : goal.returns-clause-marked_for_good
returns-clause-marked_for_good c = marked_for_good

pub returns-clause-removed_for_good : goal.returns-clause-removed_for_good
returns-clause-removed_for_good c = removed_for_good

pub returns-clause-parted_for_good : goal.returns-clause-parted_for_good
returns-clause-parted_for_good c = parted_for_good

pub returns-clause-hidden_is_still : goal.returns-clause-hidden_is_still
returns-clause-hidden_is_still c = hidden_is_still

pub returns-clause-held_not_given : goal.returns-clause-held_not_given
returns-clause-held_not_given c = held_not_given

pub returns-clause-held_is_last : goal.returns-clause-held_is_last
returns-clause-held_is_last c = held_is_last

pub returns-clause-gone_for_good : goal.returns-clause-gone_for_good
returns-clause-gone_for_good c = gone_for_good
