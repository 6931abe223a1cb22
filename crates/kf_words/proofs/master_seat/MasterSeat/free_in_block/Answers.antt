-- The search of a block: what the loads found, and which slots have a node.
use Rattle.std.proofs.Common.{◌≡◌, ℕ, ◌+◌, ◌*◌, ◌-◌, ◌<◌, true, false, List, length, arith, refl, sym, ap, ◌∙◌, subst, get_or}
use Rattle.std.specs.Prelude.{None}
use Rattle.kf_core.specs.declared.slot.SlotState.{SlotState}
use Rattle.kf_words.specs.declared.view.MasterView.{MasterView}
use Rattle.kf_words.specs.declared.master_seat.MasterSeat.{MasterSeat}
use Rattle.kf_words.specs.Layout.{IsFree}
use Rattle.kf_words.specs.Nodes.{HasNext, is_unlinked, master_view}
use Rattle.kf_words.specs.Notes.{history_of}
use Rattle.kf_words.specs.Searches.{AreLinked, SearchesOn}
use Rattle.kf_words.proofs.MasterAllowed.{found_by}
use Rattle.kf_words.proofs.Keys.{next_there}
use Rattle.kf_words.proofs.Searching.{on_begins, on_skips, on_loads, on_over, on_finds, unlinked_within, in_bits, linked_set}
use Rattle.kf_words.proofs.master_seat.MasterSeat.free_in_block.Goals.{then-is_unlinked+else-is_free, else-is_unlinked}
use Rattle.kf_words.proofs.master_seat.MasterSeat.free_in_block.Goals as goal

pub loop-place-init : goal.loop-place-init
loop-place-init c =
    let m : MasterView = master_view c.args.self.now in
    let from : ℕ = c.args.block * 64 in
    let full : List ℕ = c.args.full.now in
    let place : ℕ = c.first_unset-place.result in
    let bound = c.first_unset-place.ensures.bound in
    record {
      table = refl;
      history = refl;
      same_slots = refl;
      bound = bound;
      searching = on_over m from m from place
          (λ i low high. ap (λ (l : List SlotState). is_unlinked l i) (sym c.requires.slots)
          ∙ in_bits full c.args.slots.now c.args.block (i - from) i (get_or full c.args.block 0) c.requires.linked refl
          (c.first_unset-place.ensures.set (i - from) (omega arith) (omega (arith, low, high))) (omega (arith, low, high, bound)) (omega (arith, low)))
          (on_begins m from);
      linked = c.requires.linked;
    }

pub load_hold-found-requires : goal.load_hold-found-requires
load_hold-found-requires c =
    let slot : ℕ = c.args.block * 64 + c.loop-place.place in
    let same = c.requires.slots ∙ sym c.loop-place.invariant.same_slots in
    let long = ap (λ (l : List SlotState). length l) same in
    let near = unlinked_within c.args.slots.now slot (sym c.is_unlinked.ensures ∙ c.if-is_unlinked.true) in
    omega arith

pub returns-then-is_free-clause-searched : goal.returns-then-is_free-clause-searched
returns-then-is_free-clause-searched c =
    let first : MasterView = master_view c.args.self.now in
    let m : MasterView = master_view c.loop-place.self in
    let slot : ℕ = c.args.block * 64 + c.loop-place.place in
    on_finds first (c.args.block * 64) m _ slot (c.args.block * 64 + 64) c.load_hold-found.result
    (ap (λ (l : List SlotState). is_unlinked l slot) (c.loop-place.invariant.same_slots ∙ sym c.requires.slots) ∙ sym c.is_unlinked.ensures ∙ c.if-is_unlinked.true)
    (c.is_free.ensures.0 c.if-is_free.true) c.load_hold-found.ensures.view c.loop-place.invariant.searching

pub returns-then-is_free-clause-next : goal.returns-then-is_free-clause-next
returns-then-is_free-clause-next c =
    let m : MasterView = master_view c.loop-place.self in
    let slot : ℕ = c.args.block * 64 + c.loop-place.place in
    let unlinked : is_unlinked m.slots slot ≡ true =
    ap (λ (l : List SlotState). is_unlinked l slot) (c.loop-place.invariant.same_slots ∙ sym c.requires.slots) ∙ sym c.is_unlinked.ensures ∙ c.if-is_unlinked.true in
    subst (λ (x : MasterView). HasNext x slot) (sym c.load_hold-found.ensures.view)
    (next_there m slot c.load_hold-found.result (unlinked_within m.slots slot unlinked) c.load_hold-found.ensures.slot (c.is_free.ensures.0 c.if-is_free.true))

pub returns-then-is_free-clause-free : goal.returns-then-is_free-clause-free
returns-then-is_free-clause-free c =
    found_by IsFree (master_view c.loop-place.self) _ (c.args.block * 64 + c.loop-place.place) c.load_hold-found.result c.load_hold-found.ensures.view (c.is_free.ensures.0 c.if-is_free.true)

pub loop-place-preserved : goal.loop-place-preserved
loop-place-preserved c =
    let block : ℕ = c.args.block in
    let from : ℕ = block * 64 in
    let place : ℕ = c.loop-place.place in
    let slot : ℕ = from + place in
    let next : ℕ = c.first_unset-place-in-loop-place.result in
    let slots : List SlotState = c.args.slots.now in
    let full : List ℕ = c.if-is_unlinked.full in
    let first : MasterView = master_view c.args.self.now in
    let m : MasterView = master_view c.loop-place.self in
    let m' : MasterView = master_view c.if-is_unlinked.self in
    let bound = c.first_unset-place-in-loop-place.ensures.bound in
    let past = c.first_unset-place-in-loop-place.ensures.from in
    let same : m.slots ≡ slots = c.loop-place.invariant.same_slots ∙ sym c.requires.slots in
    let own : is_unlinked m.slots slot ≡ c.is_unlinked.result = ap (λ (l : List SlotState). is_unlinked l slot) same ∙ sym c.is_unlinked.ensures in
    let run : slot + 1 + (next - (place + 1)) ≡ from + next = omega (arith, past) in
    let over : m'.slots ≡ slots → AreLinked full slots → SearchesOn first from (slot + 1) None m' → SearchesOn first from (from + next) None m' = λ still all on.
    subst (λ (n : ℕ). SearchesOn first from n None m') run
    (on_over first from m' (slot + 1) (next - (place + 1))
    (λ i low high. ap (λ (l : List SlotState). is_unlinked l i) still
    ∙ in_bits full slots block (i - from) i (get_or full block 0) all refl
    (c.first_unset-place-in-loop-place.ensures.set (i - from) (omega (arith, low)) (omega (arith, low, high, past))) (omega (arith, low, high, past, bound)) (omega (arith, low)))
    on) in
    elim c.if-is_unlinked.branch [
      | then-is_unlinked+else-is_free w ↦
          let is = ap (λ (s : MasterSeat). master_view s) w.self-is ∙ w.load_hold-found.ensures.view in
          let still = ap (λ (x : MasterView). x.slots) is ∙ same in
          let linked : AreLinked full slots = subst (λ (l : List ℕ). AreLinked l slots) (sym w.full-is) c.loop-place.invariant.linked in
          record {
            table = ap (λ (s : MasterSeat). s.token.table_id) w.self-is ∙ w.load_hold-found.ensures.table ∙ c.loop-place.invariant.table;
            history = ap (λ (s : MasterSeat). history_of s.token.me.0.seen) w.self-is ∙ w.load_hold-found.ensures.history ∙ c.loop-place.invariant.history;
            same_slots = still ∙ c.requires.slots;
            bound = bound;
            searching = over still linked
                (on_loads first from m m' slot w.load_hold-found.result (own ∙ w.if-is_unlinked.true)
                (λ f. (let y : true ≡ false = sym (w.is_free.ensures.1 f) ∙ w.if-is_free.false in cc)) is c.loop-place.invariant.searching);
            linked = linked;
          }
      | else-is_unlinked w ↦
          let is = ap (λ (s : MasterSeat). master_view s) w.self-is in
          let still = ap (λ (x : MasterView). x.slots) is ∙ same in
          let seen : is_unlinked slots slot ≡ false = sym c.is_unlinked.ensures ∙ w.if-is_unlinked.false in
          let near : block < length c.loop-place.full = omega (arith, c.requires.block, c.loop-place.auto.full) in
          let linked : AreLinked full slots = subst (λ (l : List ℕ). AreLinked l slots) (sym w.full-is)
          (linked_set c.loop-place.full slots block place (get_or c.loop-place.full block 0) w.with_bit.result c.loop-place.invariant.linked near c.loop-place-test.true refl w.with_bit.ensures.kept seen) in
          record {
            table = ap (λ (s : MasterSeat). s.token.table_id) w.self-is ∙ c.loop-place.invariant.table;
            history = ap (λ (s : MasterSeat). history_of s.token.me.0.seen) w.self-is ∙ c.loop-place.invariant.history;
            same_slots = still ∙ c.requires.slots;
            bound = bound;
            searching = over still linked
                (subst (λ (x : MasterView). SearchesOn first from (slot + 1) None x) (sym is) (on_skips first from m slot (own ∙ w.if-is_unlinked.false) c.loop-place.invariant.searching));
            linked = linked;
          }
    ]

pub returns-clause-searched : goal.returns-clause-searched
returns-clause-searched c =
    let first : MasterView = master_view c.args.self.now in
    let m : MasterView = master_view c.loop-place.self in
    let at : c.args.block * 64 + c.loop-place.place ≡ c.args.block * 64 + 64 = omega (arith, c.loop-place-test.false, c.loop-place.invariant.bound) in
    subst (λ (n : ℕ). SearchesOn first (c.args.block * 64) n None m) at c.loop-place.invariant.searching
