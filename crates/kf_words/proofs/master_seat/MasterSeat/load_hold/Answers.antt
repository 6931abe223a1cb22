use Rattle.std.proofs.Common.{◌≡◌, ℕ, length, rules, arith, sym, ap, ◌∙◌, subst, refl}
use Rattle.std.specs.Arc.{arc_value}
use Rattle.kf_words.specs.declared.view.MasterView.{MasterView}
use Rattle.kf_words.specs.Layout.{hold_index, slot_of}
use Rattle.kf_words.specs.Steps.{Seated, TellsSlot, master_of, with_load, LoadsHold}
use Rattle.kf_words.proofs.MasterAllowed.{hold_slot, keeps_master}
use Rattle.kf_words.specs.TableSteps.{loads_hold}
use Rattle.kf_words.specs.Nodes.{MasterSight, master_sight}
use Rattle.kf_words.specs.Made.{WasMadeByMaster}
use Rattle.kf_words.specs.MadeByMaster.{MasterMakes}
use Rattle.kf_words.proofs.MasterMade.{load_made}
use Rattle.kf_words.proofs.Added.{no_note}
use Rattle.kf_words.proofs.Tokens.{asked, told_of, of_master, made_of}
use Rattle.kf_words.proofs.master_seat.MasterSeat.load_hold.Goals as goal

pub load-requires : goal.load-requires
load-requires c =
    let self = c.args.self.now in
    let words : c.deref.result.now.shared.table_id.words ≡ (arc_value self.table).shared.table_id.words = ap (λ t. t.shared.table_id.words) c.deref.ensures in
    let at = c.hold_index-word.ensures.here in
    let within = c.hold_index-word.ensures.within in
    (search rules, omega arith, asked _ _ c.token.view_is _ _ c.hold_index-word.result (λ n. n) (MasterMakes hold_index loads_hold LoadsHold) (load_made c.deref.result.now.shared.key _ _ self.token.me c.args.slot self.a_master c.hold_index-word.result (omega arith) c.requires))

pub invariant_of-self : goal.invariant_of-self
invariant_of-self c =
    let self = c.args.self.now in
    let now = told_of _ _ c.token.view_is c.load.new.seat.me c.args.slot c.hold_index-word.result c.load.result with_load self.a_master (hold_slot c.args.slot c.hold_index-word.result (sym c.hold_index-word.ensures.here)) c.load.ensures.2.1.0.0 in
    record {
      of_table = c.load.ensures.0 ∙ ap (λ s. s.table_id) c.token.view_is ∙ self.of_table;
      a_master = keeps_master _ _ now;
      lines = self.lines;
      limit = self.limit;
      few = self.few;
      all_slots = ap (λ (x : Seated). length (master_of x.0).slots) now ∙ self.all_slots;
    }

pub returns-clause-view : goal.returns-clause-view
returns-clause-view c =
    let self = c.args.self.now in
    ap (λ (x : Seated). master_of x.0) (told_of _ _ c.token.view_is c.load.new.seat.me c.args.slot c.hold_index-word.result c.load.result with_load self.a_master (hold_slot c.args.slot c.hold_index-word.result (sym c.hold_index-word.ensures.here)) c.load.ensures.2.1.0.0)

pub returns-clause-slot : goal.returns-clause-slot
returns-clause-slot c =
    let self = c.args.self.now in
    let m : MasterView = master_of self.token.me.0.view in
    subst (λ (k : ℕ). TellsSlot m k c.load.result) (hold_slot c.args.slot c.hold_index-word.result (sym c.hold_index-word.ensures.here)) (of_master _ _ c.token.view_is (λ (x : MasterView). TellsSlot x (slot_of c.hold_index-word.result) c.load.result) c.load.ensures.2.1.0.1)

pub returns-clause-made : goal.returns-clause-made
returns-clause-made c =
    let self = c.args.self.now in
    let after : MasterSight = master_sight c.load.new.seat.me.0 in
    subst (λ (k : ℕ). WasMadeByMaster (loads_hold k) (master_sight self.token.me.0) after)
    (hold_slot c.args.slot c.hold_index-word.result (sym c.hold_index-word.ensures.here))
    (made_of _ _ c.token.view_is (λ (x : MasterSight). WasMadeByMaster (loads_hold (slot_of c.hold_index-word.result)) x after) c.load.ensures.2.1.1)

pub returns-clause-history : goal.returns-clause-history
returns-clause-history c = no_note (loads_hold c.args.slot) refl _ _ (returns-clause-made c)
