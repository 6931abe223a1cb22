use Rattle.kf_driver_tests.proofs.device.files.wait_tests.a_wait_ends_by_its_limit_or_by_a_change.Given as goal

-- the name `N` stands for the tree that was just made
abbrev pub ghosts-ends_by_a_limit : goal.ghosts-ends_by_a_limit
ghosts-ends_by_a_limit g a = record { table = a.new.master.table }
