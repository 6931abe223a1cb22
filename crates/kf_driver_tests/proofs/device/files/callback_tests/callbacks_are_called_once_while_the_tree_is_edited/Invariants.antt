use Rattle.kf_driver_tests.proofs.device.files.callback_tests.callbacks_are_called_once_while_the_tree_is_edited.Given as goal

-- the name `N` stands for the tree that was just made
abbrev pub ghosts-calls_once : goal.ghosts-calls_once
ghosts-calls_once g a = record { table = a.new.master.table }
