-- Several threads may have a `&` to a token at the same time.
use denote.Param.Send.{IsSync, fixed_sync}
use Rattle.kf_words.specs.contracts.master_token.MasterToken.{the_row}
use Rattle.kf_words.specs.declared.master_token.MasterToken.TheView.{view, invariant}
use Rattle.kf_words.proofs.Crossing.{token_sync}

pub sync : IsSync the_row
sync = fixed_sync _ _ _ _ view invariant token_sync
