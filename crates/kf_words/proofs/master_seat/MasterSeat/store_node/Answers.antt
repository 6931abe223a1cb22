use Rattle.std.proofs.Common.{◌≡◌, length, rules, arith, sym, ap, ◌∙◌, ℕ, subst, refl}
use Rattle.std.specs.Arc.{arc_value}
use Rattle.kf_words.specs.Layout.{place_of, slot_of}
use Rattle.kf_words.specs.Steps.{Seated, master_of, kept}
use Rattle.kf_words.specs.TableSteps.{stores_node}
use Rattle.kf_words.specs.Nodes.{MasterSight, master_sight}
use Rattle.kf_words.specs.Made.{WasMadeByMaster}
use Rattle.kf_words.specs.MadeByMaster.{PutsNodeWord}
use Rattle.atomic_table.specs.Table.{step}
use mathlib.Core.Option.{none}
use Rattle.kf_words.proofs.MasterAllowed.{keeps_master}
use Rattle.kf_words.proofs.NodeMade.{note_made, node_slot, node_place}
use Rattle.kf_words.proofs.Added.{no_note}
use Rattle.kf_words.proofs.Tokens.{asked, told_of, made_of}
use Rattle.kf_words.proofs.master_seat.MasterSeat.store_node.Goals as goal

pub store-requires : goal.store-requires
store-requires c =
    let self = c.args.self.now in
    let words : c.deref.result.now.shared.table_id.words ≡ (arc_value self.table).shared.table_id.words = ap (λ t. t.shared.table_id.words) c.deref.ensures in
    let at = c.node_index-index.ensures in
    let lines = self.lines in
    let all = self.all_slots in
    let near = c.requires.slot in
    let few = c.requires.place in
    let i : ℕ = c.node_index-index.result in (
      search rules,
      omega arith,
      asked _ _ c.token.view_is _ _ i (λ _. c.args.word) (λ _ me _ me'. PutsNodeWord (step 0 i c.args.word 0 none) me c.args.word me')
          (note_made c.deref.result.now.shared.key _ _ self.token.me c.args.slot c.args.place i c.args.word self.a_master few (sym at) near c.requires.fresh),
    )

pub invariant_of-self : goal.invariant_of-self
invariant_of-self c =
    let self = c.args.self.now in
    let i : ℕ = c.node_index-index.result in
    let now = told_of _ _ c.token.view_is c.store.new.seat.me c.args.slot i c.args.word kept self.a_master (node_slot c.args.place c.args.slot i c.requires.place (sym c.node_index-index.ensures)) c.store.ensures.2.1.0 in
    record {
      of_table = c.store.ensures.0 ∙ ap (λ s. s.table_id) c.token.view_is ∙ self.of_table;
      a_master = keeps_master _ _ now;
      lines = self.lines;
      limit = self.limit;
      few = self.few;
      all_slots = ap (λ (x : Seated). length (master_of x.0).slots) now ∙ self.all_slots;
    }

pub returns-clause-view : goal.returns-clause-view
returns-clause-view c =
    let self = c.args.self.now in
    let i : ℕ = c.node_index-index.result in
    let now = told_of _ _ c.token.view_is c.store.new.seat.me c.args.slot i c.args.word kept self.a_master (node_slot c.args.place c.args.slot i c.requires.place (sym c.node_index-index.ensures)) c.store.ensures.2.1.0 in
    ap (λ (x : Seated). master_of x.0) now

pub returns-clause-made : goal.returns-clause-made
returns-clause-made c =
    let self = c.args.self.now in
    let i : ℕ = c.node_index-index.result in
    let at = sym c.node_index-index.ensures in
    let after : MasterSight = master_sight c.store.new.seat.me.0 in
    subst (λ (k : ℕ). WasMadeByMaster (stores_node k c.args.place c.args.word) (master_sight self.token.me.0) after) (node_slot c.args.place c.args.slot i c.requires.place at)
    (subst (λ (p : ℕ). WasMadeByMaster (stores_node (slot_of i) p c.args.word) (master_sight self.token.me.0) after) (node_place c.args.place c.args.slot i c.requires.place at)
    (made_of _ _ c.token.view_is (λ (x : MasterSight). WasMadeByMaster (stores_node (slot_of i) (place_of i) c.args.word) x after) c.store.ensures.2.1.1))

pub returns-clause-history : goal.returns-clause-history
returns-clause-history c = no_note (stores_node c.args.slot c.args.place c.args.word) refl _ _ (returns-clause-made c)
