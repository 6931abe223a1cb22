use Rattle.std.proofs.Common.{◌≢◌, arith, length}
use Rattle.std.proofs.lemmas.Bool.Decides.{nat_tests}
use Rattle.kf_pages.proofs.Offsets.{read-some}
use Rattle.kf_pages.proofs.contents.Contents.read_at.Goals as goal

pub returns-clause-read : goal.returns-clause-read
returns-clause-read g c =
    let some : length c.args.out.now ≢ 0 = grind (arith, nat_tests, c.is_empty.ensures, c.if-is_empty.false) in
    read-some g.B.BinaryOps.reads_at c.args.ops.now c.args.tag c.args.offset c.args.out.now _ _ _ some c.read_at.ensures.read
