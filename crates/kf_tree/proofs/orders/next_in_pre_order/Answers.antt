use Rattle.kf_tree.proofs.Tours.{none_listed}
use Rattle.kf_tree.proofs.PreOrder.{child_next}
use Rattle.kf_tree.proofs.Later.{later_listed}
use Rattle.kf_tree.proofs.orders.next_in_pre_order.Goals as goal

pub next_of_leaf-requires-clause-leaf : goal.next_of_leaf-requires-clause-leaf
next_of_leaf-requires-clause-leaf c = none_listed c.args.table.now c.args.key _ (rw c.in-None.ensures.empty at c.children.ensures.listed)

pub returns-in-Some-clause-next : goal.returns-in-Some-clause-next
returns-in-Some-clause-next c = child_next c.args.table.now c.requires.lawful.0 c.requires.lawful.1 c.args.key _ _ c.requires.linked (rw c.in-Some.ensures.split at c.children.ensures.listed)

pub returns-in-Some-clause-later : goal.returns-in-Some-clause-later
returns-in-Some-clause-later c = later_listed c.args.table.now _ _ _ _ (rw c.in-Some.ensures.split at c.children.ensures.listed)
