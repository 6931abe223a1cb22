use Rattle.kf_text.proofs.Emitted.{read_again, signed_again}
use Rattle.kf_text.proofs.EmittedHex.{hex_again, prefixed_again}
use Rattle.kf_text.proofs.laws.emitted_is_read.Goals as goal

pub returns : goal.returns
returns c = record { unsigned = read_again; signed = signed_again; hex = hex_again; prefixed = prefixed_again }
