use Rattle.kf_hot_tests.proofs.registry.tests.a_thousand_swaps.Given as goal

-- the name `N` stands for the tree that was just made
abbrev pub ghosts-under_swaps : goal.ghosts-under_swaps
ghosts-under_swaps g a = record { table = a.new.tree.master.table }
