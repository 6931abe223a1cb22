use Rattle.kf_driver_tests.proofs.uevents.sleeping_tests.a_listener_sleeps_until_there_is_an_event.Given as goal

-- the name `N` stands for the tree that was just made
abbrev pub ghosts-sleeps : goal.ghosts-sleeps
ghosts-sleeps g a = record { table = a.new.master.table }
