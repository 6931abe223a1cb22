use Rattle.std.proofs.Common.{◌≡◌, rules, arith, ap}
use Rattle.std.specs.Arc.{arc_value}
use Rattle.kf_words.specs.Steps.{caller_of}
use Rattle.kf_words.proofs.Made.{sleepers_load_made}
use Rattle.kf_words.proofs.seat.CallerSeat.load_sleepers.Goals as goal

pub load-requires : goal.load-requires
load-requires c =
    let seat = c.args.self.now in
    let words : c.deref.result.now.shared.table_id.words ≡ (arc_value seat.table).shared.table_id.words = ap (λ t. t.shared.table_id.words) c.deref.ensures in
    let slot : (caller_of seat.token.me.0.view).key.slot ≡ seat.key.slot = ap (λ k. k.slot) seat.same_key in
    let at = c.sleepers_index-word.ensures.here in
    let within = c.sleepers_index-word.ensures.within in
    (search rules, omega arith, sleepers_load_made _ _ _ seat.token.me c.sleepers_index-word.result seat.a_caller (omega arith))
