use Rattle.kf_shared_tests.proofs.tests.turns_of_a_removal.Given as goal

-- the table is that of the tree that was just made
abbrev pub ghosts-run_many : goal.ghosts-run_many
ghosts-run_many g a = record { table = a.new.master.table }
