-- What the words say: each clause follows from the lemma of its name.
use Rattle.kf_words.proofs.Tells.{always_safe, lets_in_the_live, tells_the_hidden, hidden_is_refused, shown_lets_in, drained_is_unused, free_is_unheld, tells_the_linked}
use Rattle.kf_words.proofs.laws.words_tell.Goals as goal

pub returns-clause-always_safe : goal.returns-clause-always_safe
returns-clause-always_safe c = always_safe

pub returns-clause-lets_in_the_live : goal.returns-clause-lets_in_the_live
returns-clause-lets_in_the_live c = lets_in_the_live

pub returns-clause-drained_is_unused : goal.returns-clause-drained_is_unused
returns-clause-drained_is_unused c = drained_is_unused

pub returns-clause-free_is_unheld : goal.returns-clause-free_is_unheld
returns-clause-free_is_unheld c = free_is_unheld

pub returns-clause-tells_the_linked : goal.returns-clause-tells_the_linked
returns-clause-tells_the_linked c = tells_the_linked

pub returns-clause-tells_the_hidden : goal.returns-clause-tells_the_hidden
returns-clause-tells_the_hidden c = tells_the_hidden

pub returns-clause-hidden_is_refused : goal.returns-clause-hidden_is_refused
returns-clause-hidden_is_refused c = hidden_is_refused

pub returns-clause-shown_lets_in : goal.returns-clause-shown_lets_in
returns-clause-shown_lets_in c = shown_lets_in
