use Rattle.kf_driver_tests.proofs.row_tests.a_table_makes_the_files_of_its_attributes.Given as goal

-- the name `N` stands for the tree that was just made
abbrev pub ghosts-publishes : goal.ghosts-publishes
ghosts-publishes g a = record { table = a.new.master.table }
