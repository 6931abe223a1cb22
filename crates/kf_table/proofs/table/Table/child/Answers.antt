use Rattle.std.proofs.Common.{◌≡◌, ◌∙◌, ap, sym}
use Rattle.std.specs.Prelude.{None}
use Rattle.std.specs.Option.{option_copied}
use Rattle.kf_core.specs.Tree.{record_at}
use Rattle.kf_table.proofs.LookUps.{child_of_none}
use Rattle.kf_table.proofs.table.Table.child.Goals as goal

pub returns-in_err-record : goal.returns-in_err-record
returns-in_err-record c = record {
  found = (let gone : record_at c.args.self.now c.args.dir ≡ None = sym c.record.ensures.known ∙ ap option_copied c.in_err-record.was in
      rw c.from_residual.ensures (sym (child_of_none _ c.requires.lawful.0 c.requires.lawful.1 c.args.dir c.args.name.now gone)));
}
