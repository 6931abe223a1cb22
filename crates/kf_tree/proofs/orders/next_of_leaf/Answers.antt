use Rattle.std.proofs.Common.{refl, sym}
use Rattle.kf_tree.proofs.PreOrder.{up_none, aside_next}
use Rattle.kf_tree.proofs.Later.{later_listed}
use Rattle.kf_tree.proofs.orders.next_of_leaf.Goals as goal

pub returns-in-Some-parent-clause-next : goal.returns-in-Some-parent-clause-next
returns-in-Some-parent-clause-next c =
    let entry = c.in-Some-record.entry.now in
    let listed = rw c.in-Some.ensures.split at (c.requires.later _ _ (sym c.in-Some-record.ensures.known) c.in-Some-parent.is) in
    aside_next c.args.table.now c.requires.lawful.0 c.requires.lawful.1 c.args.key c.args.key entry c.in-Some-parent.field-0 entry.name _ _ c.in-Some-record.ensures.known c.in-Some-parent.is refl listed
    (up_none c.args.table.now c.requires.lawful.0 c.requires.lawful.1 c.args.key c.requires.linked c.requires.leaf)

pub returns-in-Some-parent-clause-later : goal.returns-in-Some-parent-clause-later
returns-in-Some-parent-clause-later c =
    later_listed c.args.table.now _ _ _ _ (rw c.in-Some.ensures.split at (c.requires.later _ _ (sym c.in-Some-record.ensures.known) c.in-Some-parent.is))
