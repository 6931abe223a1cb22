use Rattle.kf_files.proofs.Told.{told_same}
use Rattle.kf_files.proofs.telling.tell_removed.Goals as goal

pub returns-clause-posts : goal.returns-clause-posts
returns-clause-posts g c = told_same _ _ _ c.tell_each.ensures.told
