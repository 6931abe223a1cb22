use Rattle.kf_hot_tests.proofs.file_tests.a_file_whose_gate_is_shut.Given as goal

-- the name `N` stands for the tree that was just made
abbrev pub ghosts-shut : goal.ghosts-shut
ghosts-shut g a = record { table = a.new.master.table }
