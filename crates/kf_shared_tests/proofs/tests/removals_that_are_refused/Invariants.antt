use Rattle.kf_shared_tests.proofs.tests.removals_that_are_refused.Given as goal

-- the table is that of the tree that was just made
abbrev pub ghosts-run_alone : goal.ghosts-run_alone
ghosts-run_alone g a = record { table = a.new.master.table }
