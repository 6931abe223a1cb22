use Rattle.kf_hot_tests.proofs.tests.passes_by_their_guard.Given as goal

-- the name `N` stands for the tree that was just made
abbrev pub ghosts-guarded : goal.ghosts-guarded
ghosts-guarded g a = record { table = a.new.master.table }
