use Rattle.kf_handles.proofs.tree.Tree.step.Given as goal

-- the name `N` stands for the tree that makes the step
abbrev pub ghosts-step_named : goal.ghosts-step_named
ghosts-step_named a = record { table = a.nodes.now.master.table }
