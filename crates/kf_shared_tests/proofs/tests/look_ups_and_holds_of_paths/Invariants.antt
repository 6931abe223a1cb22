use Rattle.kf_shared_tests.proofs.tests.look_ups_and_holds_of_paths.Given as goal

-- the table is that of the tree that was just made
abbrev pub ghosts-run : goal.ghosts-run
ghosts-run g a = record { table = a.new.master.table }
