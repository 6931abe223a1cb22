use Rattle.std.proofs.Common.{rules, ◌≡◌, ◌≢◌, ◌∙◌, ◌+◌, ◌-◌, sym, ap, arith, take}
use Rattle.kf_tree.proofs.Listed.{live_next, not_live_next, live_of_none}
use Rattle.kf_tree.proofs.listing.Names.split_first.Goals as goal

pub returns-then-is_live-clause-split : goal.returns-then-is_live-clause-split
returns-then-is_live-clause-split c =
    let limit = c.self.inside.limit in
    (let some : limit ≢ 0 = search rules in
    let one_less : limit ≡ limit - 1 + 1 = omega (arith, some) in
    sym (rw c.in-Some.ensures.split at c.children.invariant) ∙ live_next c.self.inside.table.now limit (limit - 1) _ _ one_less (sym c.is_live.ensures.known ∙ c.if-is_live.true))

pub children-preserved : goal.children-preserved
children-preserved c =
    let dead = not_live_next c.self.inside.table.now _ c.in-Some.rest (sym c.is_live.ensures.known ∙ c.if-is_live.false) in
    sym (ap (take c.self.inside.limit) dead) ∙ (rw c.in-Some.ensures.split at c.children.invariant)

pub returns-clause-empty : goal.returns-clause-empty
returns-clause-empty c = sym (rw c.in_default.ensures.empty at c.children.invariant) ∙ live_of_none c.self.inside.table.now c.self.inside.limit
