-- A token may be sent to another thread because its seat may.
use denote.Param.Send.{IsSend, fixed_send}
use Rattle.kf_looks.specs.contracts.writer_token.WriterToken.{the_row}
use Rattle.kf_looks.specs.declared.writer_token.WriterToken.TheView.{view, invariant}
use Rattle.kf_looks.proofs.Crossing.{token_send}

pub send : IsSend the_row
send = fixed_send _ _ _ _ view invariant token_send
