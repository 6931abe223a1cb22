use Rattle.std.proofs.Common.{◌≡◌, rules, arith, ap, sym, ◌∙◌}
use Rattle.std.specs.Arc.{arc_value}
use Rattle.kf_words.specs.Steps.{caller_of}
use Rattle.kf_words.proofs.Made.{release_of_made}
use Rattle.kf_words.proofs.seat.steps.release_of.Goals as goal

pub fetch_sub-requires : goal.fetch_sub-requires
fetch_sub-requires g c =
    let seat = c.args.seat.now in
    let words : c.deref.result.now.shared.table_id.words ≡ (arc_value seat.table).shared.table_id.words = ap (λ t. t.shared.table_id.words) c.deref.ensures in
    let slot : (caller_of seat.token.me.0.view).key.slot ≡ seat.key.slot = ap (λ k. k.slot) seat.same_key in
    let at = c.hold_index-word.ensures.here in
    let within = c.hold_index-word.ensures.within in
    let limit = c.requires.picked ∙ sym seat.limit ∙ sym (ap (λ t. t.shared.key.holds) c.deref.ensures) in
    (search rules, omega arith, release_of_made _ _ _ seat.token.me c.hold_index-word.result seat.a_caller (omega arith) c.requires.idle c.requires.settled g.E.Most.most limit)
