use Rattle.kf_index.proofs.Edited.{len_of_rising}
use Rattle.kf_index.proofs.Mapped.{rising_put, added, was_absent, refused}
use Rattle.kf_index.proofs.index.Index.insert.Goals as goal

pub insert-requires-clause-few : goal.insert-requires-clause-few
insert-requires-clause-few c = rw (← len_of_rising _ c.self.invariant, c.self.view_is) c.requires.few

pub invariant_of-self : goal.invariant_of-self
invariant_of-self c = rising_put _ _ _ _ _ c.self.invariant c.insert.ensures.put c.insert.ensures.unchanged

pub returns-clause-added : goal.returns-clause-added
returns-clause-added c = rw (← c.self.view_is) (added _ _ _ _ _ c.insert.ensures.put)

pub returns-clause-absent : goal.returns-clause-absent
returns-clause-absent c = rw (← c.self.view_is) (was_absent _ _ _ _ _ c.insert.ensures.put)

pub returns-clause-refused : goal.returns-clause-refused
returns-clause-refused c = rw (← c.self.view_is) (refused _ _ _ c.self.invariant c.insert.ensures.refused)
