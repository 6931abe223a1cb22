use Rattle.std.proofs.Common.{◌<◌, ◌^◌}
use Rattle.kf_table.proofs.KeptMarks.{kept_opening}
use Rattle.kf_table.proofs.table.Table.new.Goals as goal

pub invariant_of-result : goal.invariant_of-result
invariant_of-result c =
    let few : c.args.slots < 2 ^ 32 = c.ranges.slots.fits in
    rw (c.put.ensures.put, c.in_ok-records.ensures.made, c.in_ok-directories.ensures.made, c.empty.ensures.empty) (kept_opening c.args.slots c.args.root few c.requires.in_table)
