use Rattle.kf_shared_tests.proofs.tests.threads_on_one_tree.Given as goal

-- the table is that of the tree that was just made
abbrev pub ghosts-run : goal.ghosts-run
ghosts-run g a = record { table = a.new.master.table }
