use Rattle.kf_handles.proofs.tree.Tree.ask.Given as goal

-- the name `N` stands for the tree that is asked
abbrev pub ghosts-ask_named : goal.ghosts-ask_named
ghosts-ask_named a = record { table = a.nodes.now.master.table }
