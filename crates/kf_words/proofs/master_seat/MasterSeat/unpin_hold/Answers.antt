use Rattle.std.proofs.Common.{◌≡◌, ◌+◌, ◌-◌, ◌%◌, ◌^◌, length, rules, arith, refl, sym, ap, ◌∙◌}
use Rattle.std.specs.Arc.{arc_value}
use Rattle.kf_words.specs.Layout.{hold_index, slot_of}
use Rattle.kf_words.specs.Nodes.{MasterSight, master_sight}
use Rattle.kf_words.specs.Steps.{Seated, master_of, unread, without_pin, MasterBecomes}
use Rattle.kf_words.proofs.MasterAllowed.{hold_slot, keeps_master}
use Rattle.kf_words.specs.TableSteps.{unpins_hold}
use Rattle.kf_words.specs.Made.{WasMadeByMaster}
use Rattle.kf_words.specs.MadeByMaster.{MasterMakes}
use Rattle.kf_words.proofs.Added.{no_note}
use Rattle.kf_words.proofs.MasterMade.{unpin_made}
use Rattle.kf_words.proofs.Tokens.{asked, told_of, made_of}
use Rattle.kf_words.proofs.master_seat.MasterSeat.unpin_hold.Goals as goal

pub fetch_sub-requires : goal.fetch_sub-requires
fetch_sub-requires c =
    let self = c.args.self.now in
    let words : c.deref.result.now.shared.table_id.words ≡ (arc_value self.table).shared.table_id.words = ap (λ t. t.shared.table_id.words) c.deref.ensures in
    let at = c.hold_index-word.ensures.here in
    let within = c.hold_index-word.ensures.within in
    (search rules, omega arith, asked _ _ c.token.view_is _ _ c.hold_index-word.result (λ n. (n + (2 ^ 64 - 1)) % 2 ^ 64) (MasterMakes hold_index unpins_hold (MasterBecomes (unread without_pin))) (unpin_made c.deref.result.now.shared.key _ _ self.token.me c.args.slot self.a_master c.hold_index-word.result (omega arith) c.requires.slot c.requires.one))

pub invariant_of-self : goal.invariant_of-self
invariant_of-self c =
    let self = c.args.self.now in
    let now = told_of _ _ c.token.view_is c.fetch_sub.new.seat.me c.args.slot c.hold_index-word.result c.fetch_sub.result (unread without_pin) self.a_master (hold_slot c.args.slot c.hold_index-word.result (sym c.hold_index-word.ensures.here)) c.fetch_sub.ensures.2.1.0 in
    record {
      of_table = c.fetch_sub.ensures.0 ∙ ap (λ s. s.table_id) c.token.view_is ∙ self.of_table;
      a_master = keeps_master _ _ now;
      lines = self.lines;
      limit = self.limit;
      few = self.few;
      all_slots = ap (λ (x : Seated). length (master_of x.0).slots) now ∙ self.all_slots;
    }

pub returns-clause-view : goal.returns-clause-view
returns-clause-view c =
    let self = c.args.self.now in
    ap (λ (x : Seated). master_of x.0) (told_of _ _ c.token.view_is c.fetch_sub.new.seat.me c.args.slot c.hold_index-word.result c.fetch_sub.result (unread without_pin) self.a_master (hold_slot c.args.slot c.hold_index-word.result (sym c.hold_index-word.ensures.here)) c.fetch_sub.ensures.2.1.0)

pub returns-clause-history : goal.returns-clause-history
returns-clause-history c =
    let self = c.args.self.now in
    let after : MasterSight = master_sight c.fetch_sub.new.seat.me.0 in
    no_note (unpins_hold (slot_of c.hold_index-word.result)) refl (master_sight self.token.me.0) after
    (made_of _ _ c.token.view_is (λ (x : MasterSight). WasMadeByMaster (unpins_hold (slot_of c.hold_index-word.result)) x after) c.fetch_sub.ensures.2.1.1)
