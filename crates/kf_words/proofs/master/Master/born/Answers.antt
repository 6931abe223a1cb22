-- The slot of a new node gets its next generation, and the marks of a fresh node. (If `search rules` fails
-- here, it ends at once.)
use Rattle.std.proofs.Common.{rules, List, length-set, refl, arith, sym, ap, ◌∙◌, subst}
use Rattle.std.specs.Prelude.{Some}
use Rattle.kf_core.specs.declared.key.Key.{Key}
use Rattle.kf_core.specs.declared.slot.SlotState.{SlotState}
use Rattle.kf_core.specs.Marks.{fresh_marks}
use Rattle.kf_words.specs.declared.view.MasterView.{MasterView}
use Rattle.kf_words.specs.Steps.{with_birth, after_store}
use Rattle.kf_words.specs.TableSteps.{stores_fresh}
use Rattle.kf_words.specs.Made.{WasMadeByMaster}
use Rattle.kf_words.specs.Nodes.{MasterSight, master_sight, sight_in, MasterState, IsVacant, master_view, slots_with}
use Rattle.kf_words.proofs.Keys.{slots_born}
use Rattle.kf_words.proofs.Searching.{marked_linked}
use Rattle.kf_words.proofs.master.Master.born.Goals as goal

pub birth-requires-clause-fresh : goal.birth-requires-clause-fresh
birth-requires-clause-fresh c = search rules

pub invariant_of-self : goal.invariant_of-self
invariant_of-self c =
    let key : Key = c.args.key in
    let own : MasterView = master_view c.self.inside.steps in
    let slots : List SlotState = c.self.inside.slots in
    let fresh : SlotState = record { generation = key.generation; marks = Some fresh_marks } in
    let long = length-set slots key.slot fresh in
    let all_set = length-set c.self.inside.nodes key.slot c.args.node in
    let root = c.self.invariant.root in
    let few = c.self.invariant.few in
    let all = c.self.invariant.all_nodes in
    let is = c.birth.ensures.view ∙ ap (λ (y : MasterView). with_birth key.slot y) (c.note_node.ensures.view ∙ c.store_fresh.ensures.view) in
    rw c.set.ensures.set (rw c.set-2.ensures.set (record {
      root = omega arith;
      few = omega arith;
      same_slots = ap (λ (y : MasterView). y.slots) is ∙ slots_born own key (subst (λ (s : MasterState). IsVacant s.view key) (sym c.self.view_is) c.requires.vacant) ∙ ap (λ (l : List SlotState). slots_with l key (Some fresh_marks)) c.self.invariant.same_slots;
      same_limit = ap (λ (y : MasterView). y.limit) is ∙ c.self.invariant.same_limit;
      no_pin = ap (λ (y : MasterView). y.pinning) is ∙ c.self.invariant.no_pin;
      all_nodes = omega arith;
      marked = marked_linked c.self.inside.full.items c.self.inside.full_groups.items slots key.slot fresh refl c.self.invariant.marked;
    }))

pub returns-clause-slots : goal.returns-clause-slots
returns-clause-slots c =
    ap (λ (y : MasterView). y.slots) c.birth.ensures.view
    ∙ ap (λ (y : MasterView). (with_birth c.args.key.slot y).slots) (c.note_node.ensures.view ∙ c.store_fresh.ensures.view)
    ∙ ap (λ (s : MasterState). (with_birth c.args.key.slot (after_store c.args.key.slot s.view)).slots) c.self.view_is
    ∙ slots_born c.args.self.now.view c.args.key c.requires.vacant

pub returns-clause-made : goal.returns-clause-made
returns-clause-made c =
    let stored : MasterSight = master_sight c.store_fresh.new.self.token.me.0 in (
      stored,
      master_sight c.note_node.new.self.token.me.0,
      subst (λ (s : MasterState). WasMadeByMaster (stores_fresh c.args.key.slot) (sight_in s) stored) c.self.view_is c.store_fresh.ensures.made,
      c.note_node.ensures.noted,
      c.birth.ensures.made,
    )
