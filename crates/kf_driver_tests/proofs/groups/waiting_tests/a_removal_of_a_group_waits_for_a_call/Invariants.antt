use Rattle.kf_driver_tests.proofs.groups.waiting_tests.a_removal_of_a_group_waits_for_a_call.Given as goal

-- the name `N` stands for the tree that was just made
abbrev pub ghosts-both_wait : goal.ghosts-both_wait
ghosts-both_wait g a = record { table = a.new.master.table }
