use Rattle.std.proofs.Common.{rules, ◌≢◌, refl, sym}
use Rattle.kf_tree.proofs.Tours.{linked_sibling, on_to_sibling, up_to_parent}
use Rattle.kf_tree.proofs.Later.{later_listed}
use Rattle.kf_tree.proofs.orders.next_in_post_order.Goals as goal

pub first_below-requires-clause-linked : goal.first_below-requires-clause-linked
first_below-requires-clause-linked c =
    (let other : c.args.key ≢ c.args.top = search rules in
    linked_sibling c.args.table.now c.requires.lawful.0 c.requires.lawful.1 _ _ _ _
    (rw c.in-Some.ensures.split at (c.requires.later other _ _ (sym c.in_ok-entry.ensures.known) c.in_ok-dir.was)))

pub returns-in-None-clause-next : goal.returns-in-None-clause-next
returns-in-None-clause-next c =
    (let other : c.args.key ≢ c.args.top = search rules in
    up_to_parent c.args.table.now c.requires.lawful.0 c.requires.lawful.1 c.args.top c.args.key c.in_ok-entry.entry.now c.in_ok-dir.dir c.in_ok-entry.entry.now.name c.in_ok-entry.ensures.known c.in_ok-dir.was other
    c.requires.below refl (rw c.in-None.ensures.empty at (c.requires.later other _ _ (sym c.in_ok-entry.ensures.known) c.in_ok-dir.was)))

pub returns-in-Some-clause-next : goal.returns-in-Some-clause-next
returns-in-Some-clause-next c =
    (let other : c.args.key ≢ c.args.top = search rules in
    on_to_sibling c.args.table.now c.requires.lawful.0 c.requires.lawful.1 c.args.top c.args.key c.first_below.result.0 c.in_ok-entry.entry.now c.in_ok-dir.dir c.in_ok-entry.entry.now.name _ _ c.in_ok-entry.ensures.known c.in_ok-dir.was other
    c.requires.below refl (rw c.in-Some.ensures.split at (c.requires.later other _ _ (sym c.in_ok-entry.ensures.known) c.in_ok-dir.was)) c.first_below.ensures.first)

pub returns-in-Some-clause-later : goal.returns-in-Some-clause-later
returns-in-Some-clause-later c =
    (let other : c.args.key ≢ c.args.top = search rules in
    λ _. c.first_below.ensures.later (later_listed c.args.table.now _ _ _ _ (rw c.in-Some.ensures.split at (c.requires.later other _ _ (sym c.in_ok-entry.ensures.known) c.in_ok-dir.was))))
