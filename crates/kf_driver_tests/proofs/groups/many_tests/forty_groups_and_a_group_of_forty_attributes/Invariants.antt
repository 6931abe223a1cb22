use Rattle.kf_driver_tests.proofs.groups.many_tests.forty_groups_and_a_group_of_forty_attributes.Given as goal

-- the name `N` stands for the tree that was just made
abbrev pub ghosts-forty : goal.ghosts-forty
ghosts-forty g a = record { table = a.new.master.table }
