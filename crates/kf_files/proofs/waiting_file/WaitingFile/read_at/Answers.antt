use Rattle.kf_pages.specs.Binary.{NumberedRead}
use Rattle.kf_files.proofs.MayRead.{reads_at_told, may_read}
use Rattle.kf_files.proofs.Waits.{visits_told}
use Rattle.kf_files.proofs.waiting_file.WaitingFile.read_at.Goals as goal

pub returns-clause-reads : goal.returns-clause-reads
returns-clause-reads g c = rw (← c.self.view_is)
    (reads_at_told
    (λ v. visits_told _ _ _ _ (λ i. (i.1, i.2))
    (λ (read : NumberedRead) d. (
      d.0,
      may_read (g.W.WaitBinaryOps.may_read_at c.args.ops.now) _ c.read_at.new.ops c.self.inside.file.tag c.args.offset
          c.args.out.now c.read_at.new.out read.answer d.1,
    ))
    v)
    c.read_at.ensures.reads)
