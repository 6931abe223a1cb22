use Rattle.kf_driver_tests.proofs.file_tests.files_answer_as_their_attributes_do.Given as goal

-- the name `N` stands for the tree that was just made
abbrev pub ghosts-files : goal.ghosts-files
ghosts-files g a = record { table = a.new.master.table }
