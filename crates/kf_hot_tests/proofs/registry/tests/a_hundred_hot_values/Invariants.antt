use Rattle.kf_hot_tests.proofs.registry.tests.a_hundred_hot_values.Given as goal

-- the name `N` stands for the tree that was just made
abbrev pub ghosts-under_calls : goal.ghosts-under_calls
ghosts-under_calls g a = record { table = a.new.tree.master.table }
