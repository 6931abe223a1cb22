use Rattle.kf_driver_tests.proofs.uevents.tests.events_are_read_in_order.Given as goal

-- the name `N` stands for the tree that was just made
abbrev pub ghosts-events : goal.ghosts-events
ghosts-events g a = record { table = a.new.master.table }
