use Rattle.std.proofs.Common.{rules, ◌≡◌, sym, subst, false, None}
use Rattle.std.specs.Option.{option_map_or}
use Rattle.kf_core.specs.declared.records.Record.{Record}
use Rattle.kf_core.specs.Tree.{is_dir, record_at}
use Rattle.kf_table.specs.Next.{AreNext}
use Rattle.kf_table.proofs.LookUps.{none_below}
use Rattle.kf_table.proofs.table.Table.children.Goals as goal

pub returns-then-not-is_directory_record : goal.returns-then-not-is_directory_record
returns-then-not-is_directory_record c =
    (let none : option_map_or (λ (r : Record). is_dir r.node) (record_at c.args.self.now c.args.dir) false ≡ false = search rules in
    record {
      listed = subst (AreNext c.args.self.now c.args.dir None) (sym c.none.ensures.empty)
          (none_below _ c.requires.lawful.0 c.requires.lawful.1 c.args.dir none);
    })
