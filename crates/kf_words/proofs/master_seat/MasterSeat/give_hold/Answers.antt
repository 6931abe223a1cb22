use Rattle.std.proofs.Common.{◌≡◌, ℕ, List, [], length, rules, arith, ap, ◌∙◌}
use Rattle.std.specs.Arc.{arc_value}
use Rattle.atomic_table.specs.declared.shared.Seat.{Seat}
use Rattle.kf_words.specs.declared.sight.Sight.{Sight}
use Rattle.kf_words.specs.declared.view.View.TheVariants as seat
use Rattle.kf_words.specs.Steps.{Seated, plain, master_of, after_split}
use Rattle.kf_words.proofs.MasterAllowed.{keeps_master}
use Rattle.kf_words.proofs.MasterMade.{splits_made}
use Rattle.kf_words.proofs.Tokens.{parted}
use Rattle.kf_words.proofs.master_seat.MasterSeat.give_hold.Goals as goal

pub split_seat-requires : goal.split_seat-requires
split_seat-requires c =
    let self = c.args.self.now in
    let words : c.deref.result.now.shared.table_id.words ≡ (arc_value self.table).shared.table_id.words = ap (λ t. t.shared.table_id.words) c.deref.ensures in
    let near = c.requires.slot in
    let two = self.lines in let wide = self.all_slots in
    (search rules, omega arith, parted _ _ c.token.view_is _ (splits_made c.deref.result.now.shared.key 0 self.token.id self.token.me c.args.slot self.a_master c.requires.slot c.requires.one))

pub invariant_of-self : goal.invariant_of-self
invariant_of-self c =
    let self = c.args.self.now in
    let now : plain c.split_seat.new.seat.me ≡ (seat.Master (after_split (master_of self.token.me.0.view)), []) =
    ap plain c.split_seat.ensures.2 ∙ ap (λ (x : Seat (Unit {0}) Sight). let y : Seated = (seat.Master (after_split (master_of x.me.0.view)), x.me.1) in y) c.token.view_is ∙ ap (λ (l : List (ℕ × Unit {0})). let y : Seated = (seat.Master (after_split (master_of self.token.me.0.view)), l) in y) (ap (λ (x : Seated). x.1) self.a_master) in
    record {
      of_table = c.split_seat.ensures.0 ∙ ap (λ s. s.table_id) c.token.view_is ∙ self.of_table;
      a_master = keeps_master _ _ now;
      lines = self.lines;
      limit = self.limit;
      few = self.few;
      all_slots = ap (λ (x : Seated). length (master_of x.0).slots) now ∙ self.all_slots;
    }
