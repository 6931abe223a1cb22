use Rattle.std.proofs.Common.{◌∙◌, sym}
use Rattle.kf_table.proofs.LookUps.{record_of_linked, none_found, no_child, child_read, child_keyed}
use Rattle.kf_table.proofs.table.Table.child_of.Goals as goal

pub returns-in_err-kept-clause-found : goal.returns-in_err-kept-clause-found
returns-in_err-kept-clause-found c =
    let d = rw (← c.self.view_is) at (record_of_linked c.args.self.now c.args.dir c.requires.linked) in
    let lawful = rw (← c.self.view_is) at c.requires.lawful in
    let none = none_found _ lawful.0 lawful.1 _ c.self.invariant c.args.dir _ d.1 c.in_err-kept.ensures.none c.args.name.now in
    rw (c.from_residual.ensures, ← c.self.view_is) (sym none)

pub returns-in_err-key-clause-found : goal.returns-in_err-key-clause-found
returns-in_err-key-clause-found c =
    let d = rw (← c.self.view_is) at (record_of_linked c.args.self.now c.args.dir c.requires.linked) in
    let lawful = rw (← c.self.view_is) at c.requires.lawful in
    let none = no_child _ lawful.0 lawful.1 _ c.self.invariant c.args.dir _ d.1 c.in_ok-kept.kept.now c.in_ok-kept.ensures.kept c.args.name.now (sym c.in_err-key.was ∙ c.get-2.ensures.found) in
    rw (c.from_residual-in_err-key.ensures, ← c.self.view_is) (sym none)

pub returns-in-Some-in_slot-clause-found : goal.returns-in-Some-in_slot-clause-found
returns-in-Some-in_slot-clause-found c =
    let d = rw (← c.self.view_is) at (record_of_linked c.args.self.now c.args.dir c.requires.linked) in
    let lawful = rw (← c.self.view_is) at c.requires.lawful in
    let read = child_read _ lawful.0 lawful.1 _ c.self.invariant c.args.dir _ d.1 c.in_ok-kept.kept.now c.in_ok-kept.ensures.kept c.args.name.now c.in_ok-key.key (sym c.in_ok-key.was ∙ c.get-2.ensures.found) in
    c.in-Some-in_slot.ensures.known ∙ rw c.self.view_is at read

pub returns-in-Some-in_slot-clause-keyed : goal.returns-in-Some-in_slot-clause-keyed
returns-in-Some-in_slot-clause-keyed c =
    let d = rw (← c.self.view_is) at (record_of_linked c.args.self.now c.args.dir c.requires.linked) in
    let lawful = rw (← c.self.view_is) at c.requires.lawful in
    (child_keyed _ lawful.0 lawful.1 _ c.self.invariant c.args.dir _ d.1 c.in_ok-kept.kept.now c.in_ok-kept.ensures.kept c.args.name.now c.in_ok-key.key (sym c.in_ok-key.was ∙ c.get-2.ensures.found) c.in-Some-in_slot.found.now (rw (← c.self.view_is) at (sym c.in-Some-in_slot.ensures.known))).0

pub returns-in-None-clause-found : goal.returns-in-None-clause-found
returns-in-None-clause-found c =
    let d = rw (← c.self.view_is) at (record_of_linked c.args.self.now c.args.dir c.requires.linked) in
    let lawful = rw (← c.self.view_is) at c.requires.lawful in
    let read = child_read _ lawful.0 lawful.1 _ c.self.invariant c.args.dir _ d.1 c.in_ok-kept.kept.now c.in_ok-kept.ensures.kept c.args.name.now c.in_ok-key.key (sym c.in_ok-key.was ∙ c.get-2.ensures.found) in
    c.in-None.ensures.known ∙ rw c.self.view_is at read
