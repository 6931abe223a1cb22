use Rattle.kf_driver_tests.proofs.file_tests.files_open_in_a_tree_without_look_ups.Given as goal

-- the name `N` stands for the tree that was just made
abbrev pub ghosts-files : goal.ghosts-files
ghosts-files g a = record { table = a.new.master.table }
