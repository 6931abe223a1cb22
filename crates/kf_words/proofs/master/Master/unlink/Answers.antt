-- The node that the key names is no longer linked, and the bit of its slot is cleared.
use Rattle.std.proofs.Common.{◌≡◌, ℕ, ◌/◌, ◌<◌, Bool, List, length, length-set, slice_set, get_or, true, false, refl, arith, sym, ap, ◌∙◌, subst}
use Rattle.std.specs.Prelude.{slice_get, Some, None, is_some}
use Rattle.std.proofs.lemmas.Option.{slice_get_read, get_or_from_slice_get}
use Rattle.kf_core.specs.declared.key.Key.{Key}
use Rattle.kf_core.specs.declared.slot.SlotState.{SlotState}
use Rattle.kf_words.specs.declared.view.MasterView.{MasterView}
use Rattle.kf_words.specs.TableSteps.{looks_over}
use Rattle.kf_words.specs.Made.{WasMadeByMaster, WasUnlinked}
use Rattle.kf_words.specs.Nodes.{MasterSight, master_sight, sight_in, MasterState, master_view, marks_of, slots_with, IsLastKey}
use Rattle.kf_words.specs.Searches.{AreMarked}
use Rattle.kf_words.proofs.Keys.{linked_state, last_of_linked, last_within, slots_unlinked}
use Rattle.kf_words.proofs.Searching.{marked_left}
use Rattle.kf_words.proofs.master.Master.unlink.Goals as goal

pub unlink-requires-clause-marks : goal.unlink-requires-clause-marks
unlink-requires-clause-marks c =
    let key : Key = c.key-key.result in
    let m : MasterView = c.args.self.now.view in
    let linked : is_some (marks_of m key) ≡ true = subst (λ (k : Key). is_some (marks_of m k) ≡ true) (sym c.key-key.ensures.value) c.requires.linked in
    let x = linked_state m key linked in
    let same : (master_view c.look_over.new.self).slots ≡ m.slots = ap (λ (y : MasterView). y.slots) c.look_over.ensures.view ∙ ap (λ (s : MasterState). s.view.slots) c.self.view_is in
    (x.0, (record { generation = key.generation; marks = Some x.0 }, ap (λ (l : List SlotState). slice_get l key.slot) same ∙ x.1, refl))

pub set-requires : goal.set-requires
set-requires c =
    let key : Key = c.key-key.result in
    let m : MasterView = c.args.self.now.view in
    let linked : is_some (marks_of m key) ≡ true = subst (λ (k : Key). is_some (marks_of m k) ≡ true) (sym c.key-key.ensures.value) c.requires.linked in
    let near = last_within m (master_view c.self.inside.steps) key (last_of_linked m key linked) (ap (λ (s : MasterState). s.view.slots) c.self.view_is) in
    let long = ap (λ (l : List SlotState). length l) c.self.invariant.same_slots in
    omega arith

pub invariant_of-self-2 : goal.invariant_of-self-2
invariant_of-self-2 c =
    let key : Key = c.key-key.result in
    let m : MasterView = c.args.self.now.view in
    let own : MasterView = master_view c.self.inside.steps in
    let linked : is_some (marks_of m key) ≡ true = subst (λ (k : Key). is_some (marks_of m k) ≡ true) (sym c.key-key.ensures.value) c.requires.linked in
    let last : IsLastKey own key = subst (λ (y : MasterView). IsLastKey y key) (sym (ap (λ (s : MasterState). s.view) c.self.view_is)) (last_of_linked m key linked) in
    let same : (master_view c.look_over.new.self).slots ≡ own.slots = ap (λ (y : MasterView). y.slots) c.look_over.ensures.view in
    let slots : List SlotState = c.self.inside.slots in
    let full : List ℕ = c.self.inside.full.items in
    let groups : List Bool = c.self.inside.full_groups.items in
    let block : ℕ = c.block_of-block.result in
    let word : ℕ = c.index.result.now in
    let word' : ℕ = c.without_bit.result in
    let state : SlotState = record { generation = key.generation; marks = None } in
    let long = length-set slots key.slot state in
    let root = c.self.invariant.root in
    let few = c.self.invariant.few in
    let all = c.self.invariant.all_nodes in
    let covered = c.self.invariant.marked.covered in
    let there = last_within m own key (last_of_linked m key linked) (ap (λ (s : MasterState). s.view.slots) c.self.view_is) in
    let as_long = ap (λ (l : List SlotState). length l) c.self.invariant.same_slots in
    let near : key.slot / 64 < length full = omega (arith, there, as_long, covered) in
    let read : get_or full block 0 ≡ word = get_or_from_slice_get full block word 0
    (slice_get_read full (length full) block word refl (omega (arith, near, c.block_of-block.ensures)) c.index.ensures) in
    rw c.set.ensures.set (record {
      root = omega arith;
      few = omega arith;
      same_slots = ap (λ (y : MasterView). y.slots) c.unlink.ensures.view ∙ slots_unlinked own (master_view c.look_over.new.self) key last same ∙ ap (λ (l : List SlotState). slots_with l key None) c.self.invariant.same_slots;
      same_limit = ap (λ (y : MasterView). y.limit) c.unlink.ensures.view ∙ ap (λ (y : MasterView). y.limit) c.look_over.ensures.view ∙ c.self.invariant.same_limit;
      no_pin = ap (λ (y : MasterView). y.pinning) c.unlink.ensures.view ∙ ap (λ (y : MasterView). y.pinning) c.look_over.ensures.view ∙ c.self.invariant.no_pin;
      all_nodes = all ∙ sym long;
      marked = subst (λ (n : ℕ). AreMarked (slice_set full block word') (slice_set groups n false) (slice_set slots key.slot state)) (sym c.group_of.ensures)
          (subst (λ (n : ℕ). AreMarked (slice_set full n word') (slice_set groups (key.slot / 8192) false) (slice_set slots key.slot state)) (sym c.block_of-block.ensures)
          (marked_left full groups slots key.slot word word' state c.self.invariant.marked near
          (subst (λ (n : ℕ). get_or full n 0 ≡ word) c.block_of-block.ensures read) c.without_bit.ensures.cleared c.without_bit.ensures.no_more));
    })

pub returns-clause-slots : goal.returns-clause-slots
returns-clause-slots c =
    let key : Key = c.key-key.result in
    let m : MasterView = c.args.self.now.view in
    let linked : is_some (marks_of m key) ≡ true = subst (λ (k : Key). is_some (marks_of m k) ≡ true) (sym c.key-key.ensures.value) c.requires.linked in
    let same : (master_view c.look_over.new.self).slots ≡ m.slots = ap (λ (y : MasterView). y.slots) c.look_over.ensures.view ∙ ap (λ (s : MasterState). s.view.slots) c.self.view_is in
    ap (λ (y : MasterView). y.slots) c.unlink.ensures.view ∙ slots_unlinked m (master_view c.look_over.new.self) key (last_of_linked m key linked) same ∙ ap (λ (k : Key). slots_with m.slots k None) c.key-key.ensures.value

pub returns-clause-made : goal.returns-clause-made
returns-clause-made c =
    let looked : MasterSight = master_sight c.look_over.new.self.token.me.0 in
    let after : MasterSight = master_sight c.unlink.new.self.token.me.0 in
    subst (λ (k : Key). WasUnlinked k.slot true (sight_in c.args.self.now) after) c.key-key.ensures.value
    (looked, subst (λ (s : MasterState). WasMadeByMaster (looks_over c.key-key.result.slot) (sight_in s) looked) c.self.view_is c.look_over.ensures.made, c.unlink.ensures.made)
