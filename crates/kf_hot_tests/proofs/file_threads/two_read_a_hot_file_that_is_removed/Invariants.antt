use Rattle.kf_hot_tests.proofs.file_threads.two_read_a_hot_file_that_is_removed.Given as goal

-- the name `N` stands for the tree that was just made
abbrev pub ghosts-lives : goal.ghosts-lives
ghosts-lives g a = record { table = a.new.master.table }
