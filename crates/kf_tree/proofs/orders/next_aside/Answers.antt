use Rattle.kf_tree.proofs.PreOrder.{up_none, aside_next, up_next, up_smaller, up_last, if_none}
use Rattle.kf_tree.proofs.Later.{later_listed}
use Rattle.kf_tree.proofs.orders.next_aside.Goals as goal

pub up-init : goal.up-init
up-init c = up_none c.args.table.now c.requires.lawful.0 c.requires.lawful.1 c.args.key c.requires.linked c.requires.leaf

pub returns-in_err-dir-clause-end : goal.returns-in_err-dir-clause-end
returns-in_err-dir-clause-end c = if_none c.args.table.now c.requires.lawful.0 c.requires.lawful.1 _ _
    (up_last c.args.table.now c.requires.lawful.0 c.requires.lawful.1 c.args.key c.up.current c.in-Some.entry.now c.in-Some.ensures.known c.in_err-dir.was c.up.invariant)

pub returns-in-Some-split_first-clause-next : goal.returns-in-Some-split_first-clause-next
returns-in-Some-split_first-clause-next c = aside_next c.args.table.now c.requires.lawful.0 c.requires.lawful.1 c.args.key c.up.current c.in-Some.entry.now c.in_ok-dir.dir c.bytes.result.now _ _ c.in-Some.ensures.known c.in_ok-dir.was c.bytes.ensures.same
    (rw c.in-Some-split_first.ensures.split at c.children_above-beside.ensures.listed) c.up.invariant

pub up-smaller : goal.up-smaller
up-smaller c = up_smaller c.args.table.now c.requires.lawful.0 c.requires.lawful.1 c.up.current c.in-Some.entry.now c.in_ok-dir.dir c.in-Some.ensures.known c.in_ok-dir.was

pub up-preserved : goal.up-preserved
up-preserved c = up_next c.args.table.now c.requires.lawful.0 c.requires.lawful.1 c.args.key c.up.current c.in-Some.entry.now c.in_ok-dir.dir c.bytes.result.now c.in-Some.ensures.known c.in_ok-dir.was c.bytes.ensures.same
    (rw c.in_default-split_first.ensures.empty at c.children_above-beside.ensures.listed) c.up.invariant

pub returns-in-Some-split_first-clause-later : goal.returns-in-Some-split_first-clause-later
returns-in-Some-split_first-clause-later c = later_listed c.args.table.now _ _ _ _ (rw c.in-Some-split_first.ensures.split at c.children_above-beside.ensures.listed)
