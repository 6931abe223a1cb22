-- Why a token may be sent to another thread and shared between threads: it owns what its seat owns, and a `&`
-- to it lends no part of the seat.
use denote.Builtin.{unit}
use denote.Param.Send.{IsSend, IsSync, owning_send, part_keyless, sendable}
use Rattle.atomic_table.specs.contracts.shared.Seat as seat
use Rattle.atomic_table.proofs.shared.Seat.TheSendSync.{the_send}
use Rattle.kf_looks.specs.contracts.view.LookView as view
use Rattle.kf_looks.specs.contracts.writer_token.WriterToken.TheInside.{the_row, the_type}

seat_send : IsSend (seat.the_row unit view.the_row)
seat_send = the_send unit view.the_row (search sendable)

pub token_send : IsSend the_row
token_send = owning_send the_type (seat_send, tt) (λ d. tt) (λ k x w. (tt, tt))

pub token_sync : IsSync the_row
token_sync = record { shared = λ d b o κ q. part_keyless the_row token_send q d b o }
