use Rattle.kf_driver_tests.proofs.groups.tests.groups_are_made_and_removed.Given as goal

-- the name `N` stands for the tree that was just made
abbrev pub ghosts-steps : goal.ghosts-steps
ghosts-steps g a = record { table = a.new.master.table }
