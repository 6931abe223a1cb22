use Rattle.kf_files.proofs.open_file.OpenFile.read_at.Goals as goal

pub returns-clause-reads : goal.returns-clause-reads
returns-clause-reads g c = rw (← c.self.view_is) c.read_at.ensures.reads
