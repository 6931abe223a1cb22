use Rattle.kf_handles.proofs.tree.Tree.looker.Given as goal

-- the name `N` stands for the tree that the looker is made of
abbrev pub ghosts-looker_named : goal.ghosts-looker_named
ghosts-looker_named a = record { table = a.nodes.now.master.table }
