use Rattle.kf_hot_tests.proofs.tests.removals_of_hot_nodes.Given as goal

-- the name `N` stands for the tree that was just made
abbrev pub ghosts-removals : goal.ghosts-removals
ghosts-removals g a = record { table = a.new.master.table }
