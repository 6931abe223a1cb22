-- A token may be sent to another thread because its seat may.
use denote.Param.Send.{IsSend, fixed_send}
use Rattle.kf_words.specs.contracts.master_token.MasterToken.{the_row}
use Rattle.kf_words.specs.declared.master_token.MasterToken.TheView.{view, invariant}
use Rattle.kf_words.proofs.Crossing.{token_send}

pub send : IsSend the_row
send = fixed_send _ _ _ _ view invariant token_send
