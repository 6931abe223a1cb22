use Rattle.kf_device.proofs.Refused.{begun_or_refused}
use Rattle.kf_device.proofs.removal.begin_both.Goals as goal

pub returns-clause-begun : goal.returns-clause-begun
returns-clause-begun g c = (
  c.begin_at.new.editor,
  rw c.link_wanted.ensures.wanted at c.in_ok-link.ensures.begun,
  begun_or_refused _ _ _ c.begin_at-dir.result
      (rw c.dir_wanted.ensures.wanted at c.begin_at-dir.ensures.begun)
      c.begin_at-dir.ensures.refused
      c.begin_at-dir.ensures.same,
)
