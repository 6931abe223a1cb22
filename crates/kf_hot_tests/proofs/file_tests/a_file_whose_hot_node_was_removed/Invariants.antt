use Rattle.kf_hot_tests.proofs.file_tests.a_file_whose_hot_node_was_removed.Given as goal

-- the name `N` stands for the tree that was just made
abbrev pub ghosts-removed : goal.ghosts-removed
ghosts-removed g a = record { table = a.new.master.table }
