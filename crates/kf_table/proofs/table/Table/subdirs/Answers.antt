use Rattle.std.proofs.Common.{◌≡◌, ◌∙◌, ap, sym, arith}
use Rattle.std.specs.Prelude.{None, Some}
use Rattle.std.specs.Option.{option_copied}
use Rattle.kf_core.specs.Tree.{record_at}
use Rattle.kf_table.proofs.LookUps.{no_subdirs, subdirs_told, subdirs_few}
use Rattle.kf_table.proofs.table.Table.subdirs.Goals as goal

pub overflow_cast-result : goal.overflow_cast-result
overflow_cast-result c =
    let known : record_at c.self.inside.records c.args.dir ≡ Some c.in-Some.field-0.now = rw c.self.view_is (sym c.record.ensures.known ∙ ap option_copied c.in-Some.is) in
    let lawful = rw (← c.self.view_is) at c.requires.lawful in
    let few = rw (← c.self.view_is) at c.requires.few in
    let most = subdirs_few _ lawful.0 lawful.1 _ c.self.invariant c.args.dir _ known in
    rw c.subdirs.ensures.known (omega (arith, most, few))

pub returns-in-Some-clause-value : goal.returns-in-Some-clause-value
returns-in-Some-clause-value c =
    let known : record_at c.self.inside.records c.args.dir ≡ Some c.in-Some.field-0.now = rw c.self.view_is (sym c.record.ensures.known ∙ ap option_copied c.in-Some.is) in
    let lawful = rw (← c.self.view_is) at c.requires.lawful in
    let told = subdirs_told _ lawful.0 lawful.1 _ c.self.invariant c.args.dir _ known in
    rw (← c.self.view_is) (c.subdirs.ensures.known ∙ told)

pub returns-in-Some-clause-few : goal.returns-in-Some-clause-few
returns-in-Some-clause-few c =
    let known : record_at c.self.inside.records c.args.dir ≡ Some c.in-Some.field-0.now = rw c.self.view_is (sym c.record.ensures.known ∙ ap option_copied c.in-Some.is) in
    let lawful = rw (← c.self.view_is) at c.requires.lawful in
    let few = rw (← c.self.view_is) at c.requires.few in
    let most = subdirs_few _ lawful.0 lawful.1 _ c.self.invariant c.args.dir _ known in
    rw c.subdirs.ensures.known (omega (arith, most, few))

pub returns-in-None-clause-value : goal.returns-in-None-clause-value
returns-in-None-clause-value c =
    let gone : record_at c.args.self.now c.args.dir ≡ None = sym c.record.ensures.known ∙ ap option_copied c.in-None.is in
    no_subdirs _ c.requires.lawful.0 c.requires.lawful.1 c.args.dir gone
