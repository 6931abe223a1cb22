use Rattle.kf_driver_tests.proofs.device.bus_tests.a_bus_keeps_the_devices_that_are_there.Given as goal

-- the name `N` stands for the tree that was just made
abbrev pub ghosts-walk : goal.ghosts-walk
ghosts-walk g a = record { table = a.new.master.table }
