use Rattle.kf_shared_tests.proofs.tests.removals_of_unused_nodes.Given as goal

-- the table is that of the tree that was just made
abbrev pub ghosts-unused_nodes : goal.ghosts-unused_nodes
ghosts-unused_nodes g a = record { table = a.new.master.table }
