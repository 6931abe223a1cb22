-- Each world in a run is safe, and a slot's generation never goes back.
use Rattle.kf_core.proofs.Agreeing.{run_agrees}
use Rattle.kf_core.proofs.AgreeingHidden.{run_tells_hidden}
use Rattle.kf_core.proofs.Runs.{run_safe, linked_once, never_twice}
use Rattle.kf_core.proofs.laws.slots_kept.Goals as goal

pub returns-clause-held_last : goal.returns-clause-held_last
returns-clause-held_last c slots start events w r = (run_safe slots start events w r).held_last

pub returns-clause-unheld : goal.returns-clause-unheld
returns-clause-unheld c slots start events w w' key parent name node r step = step.bare_step.0.unheld

pub returns-clause-once : goal.returns-clause-once
returns-clause-once c count start before between u v w key again parent name node r linked later second =
    linked_once between u v w key again parent name node linked later second

pub returns-clause-never_twice : goal.returns-clause-never_twice
returns-clause-never_twice c count start before between t u v w key again parent next_parent name next_name node next_node r first later second =
    never_twice between t u v w key again parent next_parent name next_name node next_node first later second

pub returns-clause-agree : goal.returns-clause-agree
returns-clause-agree c = run_agrees

pub returns-clause-hidden_told : goal.returns-clause-hidden_told
returns-clause-hidden_told c = run_tells_hidden
