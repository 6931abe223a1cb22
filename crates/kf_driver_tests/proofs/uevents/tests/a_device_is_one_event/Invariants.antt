use Rattle.kf_driver_tests.proofs.uevents.tests.a_device_is_one_event.Given as goal

-- the name `N` stands for the tree that was just made
abbrev pub ghosts-events : goal.ghosts-events
ghosts-events g a = record { table = a.new.master.table }
