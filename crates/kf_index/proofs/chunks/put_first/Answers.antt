use Rattle.std.proofs.lemmas.Result.{err_from_is_err_and}
use Rattle.kf_index.proofs.Chunked.{put_in_first, refused_in_first}
use Rattle.kf_index.proofs.chunks.put_first.Goals as goal

pub returns-in_err-insert_into-clause-refused : goal.returns-in_err-insert_into-clause-refused
returns-in_err-insert_into-clause-refused c =
    let p = err_from_is_err_and c.from_residual.result c.from_residual.ensures.1 in
    rw (p.1, p.2) (refused_in_first _ _ _ c.requires.rising c.requires.some c.requires.here _ c.in_err-insert_into.ensures.refused)

pub returns-clause-put : goal.returns-clause-put
returns-clause-put c = rw c.split_first.ensures.same (put_in_first _ _ _ c.requires.rising c.requires.some c.requires.here _ _ c.in_ok-insert_into.ensures.put)
