use Rattle.kf_driver_tests.proofs.device.files.wait_tests.four_threads_sleep_and_each_notify_wakes_them_all.Given as goal

-- the name `N` stands for the tree that was just made
abbrev pub ghosts-four_are_woken : goal.ghosts-four_are_woken
ghosts-four_are_woken g a = record { table = a.new.master.table }
