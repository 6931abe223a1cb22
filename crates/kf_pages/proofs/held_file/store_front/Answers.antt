use Rattle.std.proofs.Common.{◌≢◌, arith, length}
use Rattle.std.proofs.lemmas.Bool.Decides.{nat_tests}
use Rattle.kf_pages.proofs.Writing.{Stored-some}
use Rattle.kf_pages.proofs.held_file.store_front.Goals as goal

pub returns-clause-stored : goal.returns-clause-stored
returns-clause-stored g c =
    let some : length c.args.bytes.now ≢ 0 = grind (arith, nat_tests, c.is_empty.ensures, c.if-is_empty.false) in
    Stored-some g.O.Ops.stores c.args.ops.now c.args.tag c.args.bytes.now _ _ some (rw c.min-end.ensures at c.store.ensures.stored)
