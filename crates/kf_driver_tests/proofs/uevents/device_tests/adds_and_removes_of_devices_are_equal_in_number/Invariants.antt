use Rattle.kf_driver_tests.proofs.uevents.device_tests.adds_and_removes_of_devices_are_equal_in_number.Given as goal

-- the name `N` stands for the tree that was just made
abbrev pub ghosts-balances : goal.ghosts-balances
ghosts-balances g a = record { table = a.new.master.table }
