use Rattle.std.proofs.Common.{◌≡◌, rules, arith, ap}
use Rattle.std.specs.Arc.{arc_value}
use Rattle.kf_words.proofs.Telling.{report_splits}
use Rattle.kf_words.proofs.seat.CallerSeat.report.Goals as goal

pub split_seat-requires : goal.split_seat-requires
split_seat-requires c =
    let seat = c.args.self.now in
    let words : c.deref.result.now.shared.table_id.words ≡ (arc_value seat.table).shared.table_id.words = ap (λ t. t.shared.table_id.words) c.deref.ensures in
    let near = seat.in_table in let wide = seat.lines in
    (search rules, omega arith, report_splits _ seat.token.id seat.token.me seat.a_caller c.requires)
