-- Several threads may have a `&` to a token at the same time.
use denote.Param.Send.{IsSync, fixed_sync}
use Rattle.kf_looks.specs.contracts.writer_token.WriterToken.{the_row}
use Rattle.kf_looks.specs.declared.writer_token.WriterToken.TheView.{view, invariant}
use Rattle.kf_looks.proofs.Crossing.{token_sync}

pub sync : IsSync the_row
sync = fixed_sync _ _ _ _ view invariant token_sync
