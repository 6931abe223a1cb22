use Rattle.kf_shared_tests.proofs.lock_tests.locking_and_unlocking_change_nothing.Given as goal

-- the table is that of the tree that was just made
abbrev pub ghosts-changes_nothing : goal.ghosts-changes_nothing
ghosts-changes_nothing g a = record { table = a.new.master.table }
