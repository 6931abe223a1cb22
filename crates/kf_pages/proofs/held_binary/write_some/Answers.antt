use Rattle.std.proofs.Common.{◌≢◌, arith, length}
use Rattle.std.proofs.lemmas.Bool.Decides.{nat_tests}
use Rattle.kf_pages.proofs.Offsets.{written-some}
use Rattle.kf_pages.proofs.held_binary.write_some.Goals as goal

pub returns-clause-written : goal.returns-clause-written
returns-clause-written g c =
    let some : length c.args.bytes.now ≢ 0 = grind (arith, nat_tests, c.is_empty.ensures, c.if-is_empty.false) in
    written-some g.B.BinaryOps.writes_at c.args.ops.now c.args.tag c.args.offset c.args.bytes.now _ _ some c.write_at.ensures.written
