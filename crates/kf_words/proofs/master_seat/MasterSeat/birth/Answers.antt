use Rattle.std.proofs.Common.{◌≡◌, ◌+◌, ◌%◌, ◌^◌, length, length-set, rules, arith, sym, ap, ◌∙◌, ℕ, subst, refl}
use Rattle.std.specs.Arc.{arc_value}
use Rattle.kf_words.specs.Layout.{hold_index, slot_of}
use Rattle.kf_words.specs.Steps.{Seated, master_of, unread, with_birth, MasterBecomes}
use Rattle.kf_words.proofs.MasterAllowed.{hold_slot, keeps_master}
use Rattle.kf_words.specs.TableSteps.{births}
use Rattle.kf_words.specs.Nodes.{MasterSight, master_sight}
use Rattle.kf_words.specs.Made.{WasMadeByMaster}
use Rattle.kf_words.specs.MadeByMaster.{MasterMakes}
use Rattle.kf_words.proofs.MasterMade.{birth_made}
use Rattle.kf_words.proofs.Added.{no_note}
use Rattle.kf_words.proofs.Tokens.{asked, told_of, made_of}
use Rattle.kf_words.proofs.master_seat.MasterSeat.birth.Goals as goal

pub fetch_add-requires : goal.fetch_add-requires
fetch_add-requires c =
    let self = c.args.self.now in
    let words : c.deref.result.now.shared.table_id.words ≡ (arc_value self.table).shared.table_id.words = ap (λ t. t.shared.table_id.words) c.deref.ensures in
    let at = c.hold_index-word.ensures.here in
    let within = c.hold_index-word.ensures.within in
    (search rules, omega arith, asked _ _ c.token.view_is _ _ c.hold_index-word.result (λ n. (n + 6442450944) % 2 ^ 64) (MasterMakes hold_index births (MasterBecomes (unread with_birth))) (birth_made c.deref.result.now.shared.key _ _ self.token.me c.args.slot self.a_master c.hold_index-word.result (omega arith) c.requires.slot c.requires.fresh))

pub invariant_of-self : goal.invariant_of-self
invariant_of-self c =
    let self = c.args.self.now in
    let now = told_of _ _ c.token.view_is c.fetch_add.new.seat.me c.args.slot c.hold_index-word.result c.fetch_add.result (unread with_birth) self.a_master (hold_slot c.args.slot c.hold_index-word.result (sym c.hold_index-word.ensures.here)) c.fetch_add.ensures.2.1.0 in
    record {
      of_table = c.fetch_add.ensures.0 ∙ ap (λ s. s.table_id) c.token.view_is ∙ self.of_table;
      a_master = keeps_master _ _ now;
      lines = self.lines;
      limit = self.limit;
      few = self.few;
      all_slots = ap (λ (x : Seated). length (master_of x.0).slots) now ∙ length-set (master_of self.token.me.0.view).slots c.args.slot _ ∙ self.all_slots;
    }

pub returns-clause-view : goal.returns-clause-view
returns-clause-view c =
    let self = c.args.self.now in
    ap (λ (x : Seated). master_of x.0) (told_of _ _ c.token.view_is c.fetch_add.new.seat.me c.args.slot c.hold_index-word.result c.fetch_add.result (unread with_birth) self.a_master (hold_slot c.args.slot c.hold_index-word.result (sym c.hold_index-word.ensures.here)) c.fetch_add.ensures.2.1.0)

pub returns-clause-made : goal.returns-clause-made
returns-clause-made c =
    let self = c.args.self.now in
    let after : MasterSight = master_sight c.fetch_add.new.seat.me.0 in
    subst (λ (k : ℕ). WasMadeByMaster (births k) (master_sight self.token.me.0) after)
    (hold_slot c.args.slot c.hold_index-word.result (sym c.hold_index-word.ensures.here))
    (made_of _ _ c.token.view_is (λ (x : MasterSight). WasMadeByMaster (births (slot_of c.hold_index-word.result)) x after) c.fetch_add.ensures.2.1.1)

pub returns-clause-history : goal.returns-clause-history
returns-clause-history c = no_note (births c.args.slot) refl _ _ (returns-clause-made c)
