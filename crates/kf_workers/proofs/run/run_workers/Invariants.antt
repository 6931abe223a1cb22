use Rattle.kf_workers.proofs.run.run_workers.Given as goal

-- the tree that was just made
abbrev pub ghosts-run_named : goal.ghosts-run_named
ghosts-run_named g a = record { table = a.new.master.table }
