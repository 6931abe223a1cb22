use Rattle.std.proofs.Common.{◌≡◌, rules, arith, ap, sym, ◌∙◌}
use Rattle.std.specs.Arc.{arc_value}
use Rattle.kf_words.specs.Steps.{caller_of}
use Rattle.kf_words.proofs.Exchanges.{miss_made}
use Rattle.kf_words.proofs.seat.CallerSeat.see_holds.Goals as goal

pub compare_exchange-requires : goal.compare_exchange-requires
compare_exchange-requires c =
    let seat = c.args.self.now in
    let words : c.deref.result.now.shared.table_id.words ≡ (arc_value seat.table).shared.table_id.words = ap (λ t. t.shared.table_id.words) c.deref.ensures in
    let slot : (caller_of seat.token.me.0.view).key.slot ≡ seat.key.slot = ap (λ k. k.slot) seat.same_key in
    let at = c.hold_index-word.ensures.here in
    let within = c.hold_index-word.ensures.within in
    let limit = sym seat.limit ∙ sym (ap (λ t. t.shared.key.holds) c.deref.ensures) in
    (search rules, omega arith, miss_made _ _ _ seat.token.me seat.a_caller c.hold_index-word.result (omega arith) c.requires seat.most limit)
