-- The search of a group of blocks, from one block to the next.
use Rattle.std.proofs.Common.{◌≡◌, ℕ, ◌+◌, ◌-◌, ◌*◌, ◌<◌, get_or, inl, inr, true, false, List, length, arith, sym, ap, ◌∙◌, subst}
use Rattle.std.specs.Prelude.{Option, None}
use Rattle.std.proofs.lemmas.Bool.{eqb-true}
use Rattle.std.proofs.lemmas.Nat.Bits.{bit_at_ones}
use Rattle.kf_core.specs.declared.slot.SlotState.{SlotState}
use Rattle.kf_words.specs.declared.view.MasterView.{MasterView}
use Rattle.kf_words.specs.Nodes.{is_unlinked, master_view}
use Rattle.kf_words.specs.Searches.{SearchesOn}
use Rattle.kf_words.proofs.Searching.{on_begins, on_over, on_then, in_bits, in_full, marked_on, marked_group, or_before}
use Rattle.kf_words.proofs.master_seat.MasterSeat.free_in_group.Goals.{then-all_full, else-all_full}
use Rattle.kf_words.proofs.master_seat.MasterSeat.free_in_group.Goals as goal

pub returns-then-full_groups-group-clause-searched :
    goal.returns-then-full_groups-group-clause-searched
returns-then-full_groups-group-clause-searched c =
    let m : MasterView = master_view c.args.self.now in
    let from : ℕ = c.args.group * 8192 in
    on_over m from m from 8192
    (λ i low high. ap (λ (l : List SlotState). is_unlinked l i) (sym c.requires.slots)
    ∙ in_full c.args.full_groups.now c.args.slots.now c.args.group i c.requires.marked.groups c.requires.group c.if-full_groups-group.true (omega arith))
    (on_begins m from)

pub loop-block-preserved : goal.loop-block-preserved
loop-block-preserved c =
    let block : ℕ = c.loop-block.block in
    let from : ℕ = c.args.group * 8192 in
    let slots : List SlotState = c.args.slots.now in
    let first : MasterView = master_view c.args.self.now in
    let m : MasterView = master_view c.loop-block.self in
    let m' : MasterView = master_view c.free_in_block.new.self in
    let next : block * 64 + 64 ≡ (block + 1) * 64 = omega arith in
    let passed : SearchesOn m (block * 64) (block * 64 + 64) None m' = subst (λ (o : Option ℕ). SearchesOn m (block * 64) (block * 64 + 64) o m') c.in_default.is c.free_in_block.ensures.searched in
    let before = c.loop-block.invariant.seen in
    let covered = c.requires.marked.grouped in
    let near : block < length c.free_in_block.new.full = omega (arith, c.loop-block-test.true, c.requires.group, c.loop-block.auto.full, c.free_in_block.auto.full) in
    record {
      table = c.free_in_block.ensures.table ∙ c.loop-block.invariant.table;
      history = c.free_in_block.ensures.history ∙ c.loop-block.invariant.history;
      same_slots = c.free_in_block.ensures.slots ∙ c.loop-block.invariant.same_slots;
      searching = subst (λ (n : ℕ). SearchesOn first from n None m') next (on_then first from m m' (block * 64) (block * 64 + 64) c.loop-block.invariant.searching passed);
      marked = marked_on c.loop-block.full c.free_in_block.new.full c.args.full_groups.now slots c.loop-block.invariant.marked c.free_in_block.ensures.linked c.free_in_block.auto.full;
      seen = λ all i low high. elim c.if-all_full.branch [
        | then-all_full w ↦ elim (or_before i (block * 64)) [
          | inl h ↦ before w.if-all_full.true i low h
          | inr h ↦ in_bits c.free_in_block.new.full slots block (i - block * 64) i 18446744073709551615 c.free_in_block.ensures.linked (eqb-true (get_or c.free_in_block.new.full block 0) 18446744073709551615 (sym w.all_full-is ∙ all)) (bit_at_ones 64 (i - block * 64) (omega (arith, h, high))) (omega (arith, h, high)) (omega (arith, h))
        ]
        | else-all_full w ↦ absurd (let y : true ≡ false = sym all ∙ w.all_full-is ∙ w.if-all_full.false in cc)
      ];
    }

pub returns-clause-searched : goal.returns-clause-searched
returns-clause-searched c =
    let first : MasterView = master_view c.args.self.now in
    let at : c.loop-block.block * 64 ≡ c.args.group * 8192 + 8192 = omega (arith, c.loop-block-test.false, c.loop-block.auto.block-end) in
    subst (λ (n : ℕ). SearchesOn first (c.args.group * 8192) n None (master_view c.loop-block.self)) at c.loop-block.invariant.searching

pub returns-clause-marked : goal.returns-clause-marked
returns-clause-marked c =
    let at : c.loop-block.block * 64 ≡ c.args.group * 8192 + 8192 = omega (arith, c.loop-block-test.false, c.loop-block.auto.block-end) in
    marked_group c.loop-block.full c.args.full_groups.now c.args.slots.now c.args.group c.loop-block.all_full c.loop-block.invariant.marked
    (λ all i here. c.loop-block.invariant.seen all i (omega arith) (omega arith))
