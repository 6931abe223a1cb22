-- The search of all slots, from one group to the next.
use Rattle.std.proofs.Common.{◌≡◌, ℕ, ◌+◌, ◌*◌, arith, sym, ◌∙◌, subst}
use Rattle.std.specs.Prelude.{Option}
use Rattle.kf_words.specs.declared.view.MasterView.{MasterView}
use Rattle.kf_words.specs.Nodes.{FoundFirst, master_view}
use Rattle.kf_words.specs.Searches.{HasPassed, SearchesOn}
use Rattle.kf_words.proofs.Searching.{passed_slots, passed_limit, passed_pinning, found_slots, found_limit, found_pinning}
use Rattle.kf_words.proofs.master_seat.MasterSeat.find_free.Goals.{In-Some}
use Rattle.kf_words.proofs.master_seat.MasterSeat.find_free.Goals as goal

pub free_in_group-requires-clause-slots : goal.free_in_group-requires-clause-slots
free_in_group-requires-clause-slots c =
    c.requires.slots ∙ sym (passed_slots (master_view c.args.self.now) (master_view c.loop-group.self) (c.loop-group.group * 8192) c.loop-group.invariant.searching)

found : (c : goal.In-Some) → FoundFirst (master_view c.args.self.now) c.in-Some.slot (master_view c.free_in_group.new.self)
found c =
    let from : ℕ = c.loop-group.group * 8192 in
    let m : MasterView = master_view c.loop-group.self in
    let m' : MasterView = master_view c.free_in_group.new.self in
    subst (λ (o : Option ℕ). SearchesOn m from (from + 8192) o m') c.in-Some.is c.free_in_group.ensures.searched (master_view c.args.self.now) c.loop-group.invariant.searching

pub returns-in-Some-clause-slots : goal.returns-in-Some-clause-slots
returns-in-Some-clause-slots c = found_slots (master_view c.args.self.now) (master_view c.free_in_group.new.self) c.in-Some.slot (found c)

pub returns-in-Some-clause-limit : goal.returns-in-Some-clause-limit
returns-in-Some-clause-limit c = found_limit (master_view c.args.self.now) (master_view c.free_in_group.new.self) c.in-Some.slot (found c)

pub returns-in-Some-clause-pinning : goal.returns-in-Some-clause-pinning
returns-in-Some-clause-pinning c = found_pinning (master_view c.args.self.now) (master_view c.free_in_group.new.self) c.in-Some.slot (found c)

pub loop-group-preserved : goal.loop-group-preserved
loop-group-preserved c =
    let from : ℕ = c.loop-group.group * 8192 in
    let first : MasterView = master_view c.args.self.now in
    let m : MasterView = master_view c.loop-group.self in
    let m' : MasterView = master_view c.free_in_group.new.self in
    let next : from + 8192 ≡ (c.loop-group.group + 1) * 8192 = omega arith in
    record {
      table = c.free_in_group.ensures.table ∙ c.loop-group.invariant.table;
      history = c.free_in_group.ensures.history ∙ c.loop-group.invariant.history;
      searching = subst (λ (n : ℕ). HasPassed first n m') next
          (subst (λ (o : Option ℕ). SearchesOn m from (from + 8192) o m') c.in_default.is c.free_in_group.ensures.searched first c.loop-group.invariant.searching);
      marked = c.free_in_group.ensures.marked;
    }

pub returns-clause-slots : goal.returns-clause-slots
returns-clause-slots c = passed_slots (master_view c.args.self.now) (master_view c.loop-group.self) (c.loop-group.group * 8192) c.loop-group.invariant.searching

pub returns-clause-limit : goal.returns-clause-limit
returns-clause-limit c = passed_limit (master_view c.args.self.now) (master_view c.loop-group.self) (c.loop-group.group * 8192) c.loop-group.invariant.searching

pub returns-clause-pinning : goal.returns-clause-pinning
returns-clause-pinning c = passed_pinning (master_view c.args.self.now) (master_view c.loop-group.self) (c.loop-group.group * 8192) c.loop-group.invariant.searching
