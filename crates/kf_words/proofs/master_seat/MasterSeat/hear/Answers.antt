use Rattle.std.proofs.Common.{◌≡◌, rules, arith, ap}
use Rattle.std.specs.Arc.{arc_value}
use Rattle.kf_words.proofs.MasterMade.{hear_joins}
use Rattle.kf_words.proofs.Tokens.{hearing}
use Rattle.kf_words.proofs.master_seat.MasterSeat.hear.Goals as goal

pub join_seat-requires : goal.join_seat-requires
join_seat-requires g c =
    let self = c.args.self.now in
    let other = c.args.other in
    let words : c.deref.result.now.shared.table_id.words ≡ (arc_value self.table).shared.table_id.words = ap (λ t. t.shared.table_id.words) c.deref.ensures in
    let some_slot = c.requires.slot in
    let wide = self.all_slots in
    let lines = self.lines in (
      search rules,
      search rules,
      c.requires.bare,
      omega arith,
      hearing _ _ c.token.view_is _ other.id other.me.0 g.E.Knowing.sight c.requires.picked (hear_joins _ self.token.id self.token.me.0 other.id other.me.0),
    )
