use Rattle.std.proofs.Common.{◌<◌, ◌++◌, List, length, sym, ◌∙◌, subst, arith}
use Rattle.std.specs.Option.{option_to_list}
use Rattle.kf_words.specs.Callers.{Handle}
use Rattle.kf_shared.specs.Locked.{history}
use Rattle.kf_shared.specs.Sections.{HasMet}
use Rattle.kf_shared.proofs.Told.{held_master}
use Rattle.kf_shared.proofs.Turns.{last_of, met_far, met_owners, met_pushed, same_owner_tables}
use Rattle.kf_shared.proofs.locked.Locked.meet_last.Goals as goal

pub new-requires-clause-holds : goal.new-requires-clause-holds
new-requires-clause-holds g c =
    same_owner_tables g.N.Naming.table c.rest.inside.holds.items c.meet_back.new.holds.items
    (met_owners (history c.args.self.now) c.meet_back.new.self.master.seen c.rest.inside.holds.items c.meet_back.new.holds.items c.meet_back.ensures.met) c.rest.invariant.2

pub returns-then-len-gt0-clause-met : goal.returns-then-len-gt0-clause-met
returns-then-len-gt0-clause-met g c =
    let seen = c.meet_back.new.self.master.seen in
    let some : 0 < length c.rest.inside.holds.items = (let n = c.len.ensures in let l = c.rest.inside.holds.ok.0 in let t = c.if-len-gt0.true in omega (arith, n, l, t)) in
    subst (λ (l : List Handle). HasMet (history c.args.self.now) seen c.args.rest l) (sym c.new.ensures.same)
    (subst (λ (l : List Handle). HasMet (history c.args.self.now) seen l (c.rest.inside.receipts.items ++ (option_to_list c.rest.inside.drained ++ c.meet_back.new.holds.items))) c.rest.view_is
    (met_far (history c.args.self.now) seen c.rest.inside.receipts.items (option_to_list c.rest.inside.drained) c.rest.inside.holds.items c.meet_back.new.holds.items some c.meet_back.ensures.met))

pub invariant_of-self : goal.invariant_of-self
invariant_of-self g c = held_master g.N.Naming.table c.self.inside.state c.self.inside.master c.meet_drained.new.self c.self.inside.claims.items c.self.invariant c.meet_drained.ensures.kept

pub meet_parted-requires : goal.meet_parted-requires
meet_parted-requires g c = record {
  table = last_of g.N.Naming.table c.rest.inside.receipts.items c.pop.new.self.items c.in-Some-pop.last c.in-Some-pop.ensures.items c.rest.invariant.0 ∙ sym c.self.invariant.0.same_table;
}

pub invariant_of-self-in-None : goal.invariant_of-self-in-None
invariant_of-self-in-None g c = held_master g.N.Naming.table c.self.inside.state c.self.inside.master c.meet_parted.new.self c.self.inside.claims.items c.self.invariant c.meet_parted.ensures.kept

pub new-requires-in-None-clause-receipts : goal.new-requires-in-None-clause-receipts
new-requires-in-None-clause-receipts g c =
    same_owner_tables g.N.Naming.table c.rest.inside.receipts.items c.push_reserved.new.self.items
    (met_pushed c.pop.new.self.items c.rest.inside.receipts.items c.push_reserved.new.self.items c.in-Some-pop.last c.meet_parted.new.parted c.meet_parted.new.self.seen c.in-Some-pop.ensures.items c.meet_parted.ensures.parted c.push_reserved.ensures.items) c.rest.invariant.0
