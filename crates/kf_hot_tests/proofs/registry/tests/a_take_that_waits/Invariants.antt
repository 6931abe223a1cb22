use Rattle.kf_hot_tests.proofs.registry.tests.a_take_that_waits.Given as goal

-- the name `N` stands for the tree that was just made
abbrev pub ghosts-taken_in_use : goal.ghosts-taken_in_use
ghosts-taken_in_use g a = record { table = a.new.tree.master.table }
