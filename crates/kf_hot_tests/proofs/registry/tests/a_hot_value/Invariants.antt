use Rattle.kf_hot_tests.proofs.registry.tests.a_hot_value.Given as goal

-- the name `N` stands for the tree that was just made
abbrev pub ghosts-alone : goal.ghosts-alone
ghosts-alone g a = record { table = a.new.tree.master.table }
