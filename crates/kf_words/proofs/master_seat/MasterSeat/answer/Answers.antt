use Rattle.std.proofs.Common.{◌≡◌, rules, arith, ap}
use Rattle.std.specs.Arc.{arc_value}
use Rattle.kf_words.proofs.MasterMade.{answer_splits}
use Rattle.kf_words.proofs.Tokens.{answering}
use Rattle.kf_words.proofs.master_seat.MasterSeat.answer.Goals as goal

pub split_seat-requires : goal.split_seat-requires
split_seat-requires c =
    let self = c.args.self.now in
    let words : c.deref.result.now.shared.table_id.words ≡ (arc_value self.table).shared.table_id.words = ap (λ t. t.shared.table_id.words) c.deref.ensures in
    let some_slot = c.requires in
    let wide = self.all_slots in
    let lines = self.lines in
    (search rules, omega arith, answering _ _ c.token.view_is _ (answer_splits c.deref.result.now.shared.key 0 self.token.id self.token.me 0 self.a_master c.requires))
