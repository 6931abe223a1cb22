use Rattle.std.proofs.Common.{◌≡◌, ◌∙◌, refl, ap, sym, Some, None}
use Rattle.std.specs.Option.{option_copied}
use Rattle.kf_core.specs.Tree.{record_at}
use Rattle.kf_table.specs.Next.{AreNext}
use Rattle.kf_table.proofs.LookUps.{all_read, none_above_none}
use Rattle.kf_table.proofs.table.Table.children_above.Goals as goal

pub returns-in_default : goal.returns-in_default
unfolding AreNext
returns-in_default c =
    let gone : record_at c.args.self.now c.args.dir ≡ None = sym c.record.ensures.known ∙ ap option_copied c.in_default.is in
    rw c.none.ensures.empty (record { listed = none_above_none _ c.requires.lawful.0 c.requires.lawful.1 c.args.dir _ gone })

pub returns : goal.returns
returns c =
    let known : record_at c.self.inside.records c.args.dir ≡ Some c.in-Some.field-0.now = rw c.self.view_is (sym c.record.ensures.known ∙ ap option_copied c.in-Some.is) in
    let lawful = rw (← c.self.view_is) at c.requires.lawful in
    let listed = all_read _ lawful.0 lawful.1 _ c.self.invariant c.args.dir _ known _ refl _ _ c.above.ensures.listed in
    rw (← c.self.view_is) (record { listed = listed })
