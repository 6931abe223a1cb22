use Rattle.std.proofs.Common.{◌≡◌, [], ◌∷◌, ◌++◌, inl, inr, sym, ap, ◌∙◌, subst, arith}
use Rattle.kf_shared.specs.Locked.{history}
use Rattle.kf_shared.specs.Receipts.{owners_of}
use Rattle.kf_shared.specs.Removal.{keys_of}
use Rattle.kf_shared.specs.Sections.{unlinks_of}
use Rattle.kf_shared.proofs.Receipts.{next_finished, of_rest, same_owner}
use Rattle.kf_shared.proofs.Finishing.{seat_on}
use Rattle.kf_shared.proofs.Turns.{first_keys, first_keys_next, next_gone, next_unlinked, same_owner_tables}
use Rattle.kf_shared.proofs.locked.Locked.unlink_unused.Goals as goal

pub returns-in_default-clause-noted : goal.returns-in_default-clause-noted
returns-in_default-clause-noted g c =
    let i = c.loop.invariant in
    (keys_of c.loop.receipts.items, first_keys c.loop.receipts.items c.loop.holds.items c.args.holds.items i.2, i.4)

pub new-requires-in-Err-unlink_and_part-clause-holds : goal.new-requires-in-Err-unlink_and_part-clause-holds
new-requires-in-Err-unlink_and_part-clause-holds g c = of_rest g.N.Naming.table c.loop.holds.items c.pop_front.new.self.items c.in-Some.hold c.in-Some.ensures.items c.loop.invariant.0

pub returns-in-Err-unlink_and_part-clause-noted : goal.returns-in-Err-unlink_and_part-clause-noted
returns-in-Err-unlink_and_part-clause-noted g c =
    let i = c.loop.invariant in
    let key = c.in-Ok.ensures.same.key in
    let all = ap (λ l. owners_of c.loop.receipts.items ++ owners_of l) (sym c.in-Some.ensures.items) ∙ i.2 in (elim c.in-Err-unlink_and_part.ensures.noted [
      | inl none ↦ (keys_of c.loop.receipts.items, first_keys c.loop.receipts.items c.loop.holds.items c.args.holds.items i.2, none ∙ i.4)
      | inr noted ↦ (
        keys_of c.loop.receipts.items ++ c.in-Some.hold.key ∷ [],
        first_keys_next c.loop.receipts.items c.pop_front.new.self.items c.args.holds.items c.in-Some.hold all,
        subst (λ k. history c.unlink_and_part.new.self ≡ history c.args.self.now ++ unlinks_of (keys_of c.loop.receipts.items ++ k ∷ [])) key
            (next_gone (history c.args.self.now) (history c.loop.self) (history c.unlink_and_part.new.self) (keys_of c.loop.receipts.items) c.in-Ok.drained.key i.4 noted),
      )
    ])

pub new-requires-in-Err-clause-holds : goal.new-requires-in-Err-clause-holds
new-requires-in-Err-clause-holds g c =
    same_owner_tables g.N.Naming.table c.loop.holds.items c.push_front_reserved.new.self.items
    (ap owners_of c.push_front_reserved.ensures.items ∙ ap (λ o. o ∷ owners_of c.pop_front.new.self.items) (same_owner c.in-Some.hold c.in-Err.hold c.in-Err.ensures.same) ∙ sym (ap owners_of c.in-Some.ensures.items)) c.loop.invariant.0

pub returns-in-Err-clause-noted : goal.returns-in-Err-clause-noted
returns-in-Err-clause-noted g c =
    let i = c.loop.invariant in
    (keys_of c.loop.receipts.items, first_keys c.loop.receipts.items c.loop.holds.items c.args.holds.items i.2, i.4)

pub loop-preserved : goal.loop-preserved
loop-preserved g c =
    let i = c.loop.invariant in
    let u = c.in-Ok-unlink_and_part in
    let same = seat_on c.in-Some.hold c.in-Ok.drained u.parted c.in-Ok.ensures.same u.ensures.same in
    let n = next_finished g.N.Naming.table c.loop.holds.items c.pop_front.new.self.items c.loop.receipts.items c.push_reserved.new.self.items c.in-Some.hold u.parted _ c.in-Some.ensures.items c.push_reserved.ensures.items same i.0 i.1 i.2 in (
      n.0,
      n.1,
      n.2,
      omega (arith, i.3, c.in-Some.ensures.cases, c.push_reserved.ensures.len, c.push_reserved.ensures.capacity),
      next_unlinked (history c.args.self.now) (history c.loop.self) (history c.unlink_and_part.new.self) c.loop.receipts.items c.push_reserved.new.self.items c.in-Ok.drained u.parted i.4 u.ensures.noted u.ensures.same.key c.push_reserved.ensures.items,
    )

pub returns-clause-noted : goal.returns-clause-noted
returns-clause-noted g c =
    let i = c.loop.invariant in
    (keys_of c.loop.receipts.items, first_keys c.loop.receipts.items c.loop.holds.items c.args.holds.items i.2, i.4)
