use Rattle.kf_hot_tests.proofs.tests.a_removal_that_does_not_know.Given as goal

-- the name `N` stands for the tree that was just made
abbrev pub ghosts-unknown : goal.ghosts-unknown
ghosts-unknown g a = record { table = a.new.master.table }
