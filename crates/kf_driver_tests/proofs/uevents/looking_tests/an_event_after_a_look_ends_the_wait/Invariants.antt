use Rattle.kf_driver_tests.proofs.uevents.looking_tests.an_event_after_a_look_ends_the_wait.Given as goal

-- the name `N` stands for the tree that was just made
abbrev pub ghosts-looks : goal.ghosts-looks
ghosts-looks g a = record { table = a.new.master.table }
