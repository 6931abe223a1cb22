use Rattle.std.proofs.Common.{◌≡◌, rules, arith, ap, subst}
use Rattle.std.specs.Arc.{arc_value}
use Rattle.atomic_table.specs.Table.{Joins}
use Rattle.kf_words.specs.declared.sight.Sight.{Sight}
use Rattle.kf_words.specs.History.{Kept, takes_over}
use Rattle.kf_words.proofs.Telling.{take_joins}
use Rattle.kf_words.proofs.seat.CallerSeat.take_over.Goals as goal

pub join_seat-requires : goal.join_seat-requires
join_seat-requires g c =
    let seat = c.args.self.now in
    let other = c.args.other in
    let words : c.deref.result.now.shared.table_id.words ≡ (arc_value seat.table).shared.table_id.words = ap (λ t. t.shared.table_id.words) c.deref.ensures in
    let near = seat.in_table in let wide = seat.lines in (
      search rules,
      search rules,
      c.requires.bare,
      omega arith,
      subst (λ (x : Sight). Joins (Kept c.deref.result.now.shared.key) seat.token.id seat.token.me.0 other.id other.me.0 (takes_over seat.token.me.0 other.me.0) x) c.requires.picked
          (take_joins _ seat.token.id seat.token.me seat.a_caller other.id other.me.0),
    )
