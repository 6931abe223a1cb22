use Rattle.std.proofs.Common.{◌≡◌, length, rules, arith, sym, ap, ◌∙◌, ℕ, subst, refl}
use Rattle.std.specs.Arc.{arc_value}
use Rattle.kf_words.specs.Layout.{bias, active_index, slot_of}
use Rattle.kf_words.specs.Steps.{Seated, master_of, unread, after_store, MasterBecomes}
use Rattle.kf_words.proofs.MasterAllowed.{active_slot, keeps_master}
use Rattle.kf_words.specs.TableSteps.{stores_fresh}
use Rattle.kf_words.specs.Nodes.{MasterSight, master_sight}
use Rattle.kf_words.specs.Made.{WasMadeByMaster}
use Rattle.kf_words.specs.MadeByMaster.{MasterMakes}
use Rattle.kf_words.proofs.MasterMade.{store_made}
use Rattle.kf_words.proofs.Added.{no_note}
use Rattle.kf_words.proofs.Tokens.{asked, told_of, made_of}
use Rattle.kf_words.proofs.master_seat.MasterSeat.store_fresh.Goals as goal

pub store-requires : goal.store-requires
store-requires c =
    let self = c.args.self.now in
    let words : c.deref.result.now.shared.table_id.words ≡ (arc_value self.table).shared.table_id.words = ap (λ t. t.shared.table_id.words) c.deref.ensures in
    let at = c.active_index-word.ensures.here in
    let within = c.active_index-word.ensures.within in
    (search rules, omega arith, asked _ _ c.token.view_is _ _ c.active_index-word.result (λ _. bias) (MasterMakes active_index stores_fresh (MasterBecomes (unread after_store))) (store_made c.deref.result.now.shared.key _ _ self.token.me c.args.slot self.a_master c.active_index-word.result (omega arith) c.requires.slot c.requires.free))

pub invariant_of-self : goal.invariant_of-self
invariant_of-self c =
    let self = c.args.self.now in
    let now = told_of _ _ c.token.view_is c.store.new.seat.me c.args.slot c.active_index-word.result 0 (unread after_store) self.a_master (active_slot c.args.slot c.active_index-word.result (sym c.active_index-word.ensures.here)) c.store.ensures.2.1.0 in
    record {
      of_table = c.store.ensures.0 ∙ ap (λ s. s.table_id) c.token.view_is ∙ self.of_table;
      a_master = keeps_master _ _ now;
      lines = self.lines;
      limit = self.limit;
      few = self.few;
      all_slots = ap (λ (x : Seated). length (master_of x.0).slots) now ∙ self.all_slots;
    }

pub returns-clause-view : goal.returns-clause-view
returns-clause-view c =
    let self = c.args.self.now in
    let now = told_of _ _ c.token.view_is c.store.new.seat.me c.args.slot c.active_index-word.result 0 (unread after_store) self.a_master (active_slot c.args.slot c.active_index-word.result (sym c.active_index-word.ensures.here)) c.store.ensures.2.1.0 in
    ap (λ (x : Seated). master_of x.0) now

pub returns-clause-made : goal.returns-clause-made
returns-clause-made c =
    let self = c.args.self.now in
    let after : MasterSight = master_sight c.store.new.seat.me.0 in
    subst (λ (k : ℕ). WasMadeByMaster (stores_fresh k) (master_sight self.token.me.0) after)
    (active_slot c.args.slot c.active_index-word.result (sym c.active_index-word.ensures.here))
    (made_of _ _ c.token.view_is (λ (x : MasterSight). WasMadeByMaster (stores_fresh (slot_of c.active_index-word.result)) x after) c.store.ensures.2.1.1)

pub returns-clause-history : goal.returns-clause-history
returns-clause-history c = no_note (stores_fresh c.args.slot) refl _ _ (returns-clause-made c)
