use Rattle.std.proofs.Common.{sym, ◌∙◌}
use Rattle.kf_table.proofs.LookUps.{seen_child}
use Rattle.kf_table.proofs.table.Table.hinted.Goals as goal

pub returns-clause-found : goal.returns-clause-found
returns-clause-found c =
    let lawful = c.requires.lawful in
    seen_child _ lawful.0 lawful.1 c.args.dir c.args.name.now _ c.in_ok-found.found.now c.in_ok-found.ensures.known (sym c.is_child.ensures.known ∙ c.if-not-is_child.false)
