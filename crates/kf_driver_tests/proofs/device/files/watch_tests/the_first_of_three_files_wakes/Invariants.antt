use Rattle.kf_driver_tests.proofs.device.files.watch_tests.the_first_of_three_files_wakes.Given as goal

-- the name `N` stands for the tree that was just made
abbrev pub ghosts-lives : goal.ghosts-lives
ghosts-lives g a = record { table = a.new.master.table }
