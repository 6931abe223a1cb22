use Rattle.kf_hot_tests.proofs.file_tests.a_file_of_a_hot_node.Given as goal

-- the name `N` stands for the tree that was just made
abbrev pub ghosts-live : goal.ghosts-live
ghosts-live g a = record { table = a.new.master.table }
