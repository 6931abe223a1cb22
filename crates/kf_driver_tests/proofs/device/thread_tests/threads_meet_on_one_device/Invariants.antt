use Rattle.kf_driver_tests.proofs.device.thread_tests.threads_meet_on_one_device.Given as goal

-- the name `N` stands for the tree that was just made
abbrev pub ghosts-crowds_meet : goal.ghosts-crowds_meet
ghosts-crowds_meet g a = record { table = a.new.master.table }
