use Rattle.kf_index.proofs.Chunked.{lacks_in_first}
use Rattle.kf_index.proofs.chunks.take_first.Goals as goal

pub returns-in_err-key-clause-absent : goal.returns-in_err-key-clause-absent
returns-in_err-key-clause-absent c =
    rw c.from_residual.ensures (lacks_in_first _ _ _ c.requires.rising c.requires.some c.requires.here c.in_err-key.ensures.absent)
