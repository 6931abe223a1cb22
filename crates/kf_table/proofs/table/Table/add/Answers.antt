use Rattle.std.proofs.Common.{◌<◌, arith, length}
use Rattle.std.proofs.lemmas.Option.{slice_get_within}
use Rattle.kf_table.proofs.KeptRecords.{may_insert, kept_added}
use Rattle.kf_table.proofs.table.Table.add.Goals as goal

pub insert_record-requires : goal.insert_record-requires
insert_record-requires c =
    let vacant = rw (← c.self.view_is) at c.requires.vacant in
    let after = rw (← c.self.view_is) at c.requires.lawful_after in
    record { lawful = may_insert _ _ c.self.invariant c.args.entry vacant after }

pub put-requires : goal.put-requires
put-requires c =
    let vacant = rw (← c.self.view_is) at c.requires.vacant in
    let low : c.args.entry.key.slot < length c.self.inside.records = slice_get_within _ _ _ vacant in
    omega (arith, low)

pub invariant_of-self-2 : goal.invariant_of-self-2
invariant_of-self-2 c =
    let vacant = rw (← c.self.view_is) at c.requires.vacant in
    let after = rw (← c.self.view_is) at c.requires.lawful_after in
    let may = may_insert _ _ c.self.invariant c.args.entry vacant after in
    rw (c.put.ensures.put, c.in_ok-insert_record.ensures.inserted) (kept_added _ _ c.self.invariant c.args.entry vacant may)
