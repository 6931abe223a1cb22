use Rattle.use_shared.proofs.file.start.Given as goal

-- the name `N` stands for the tree that was just made
abbrev pub ghosts-run : goal.ghosts-run
ghosts-run g a = record { table = a.new.master.table }
