use Rattle.std.proofs.Common.{rules, sym}
use Rattle.kf_gates.proofs.Allowed.{keeps_as, keeps_on, scan_allowed, scanned_empty, scanned_used}
use Rattle.kf_gates.proofs.board.Board.scan.Goals as goal

pub load-found-requires : goal.load-found-requires
load-found-requires c = (search rules, search rules, scan_allowed _ _ _ _ c.args.plan _ c.requires.keeps c.requires.shut (search rules))

pub returns-then-found-eq0-clause-keeps : goal.returns-then-found-eq0-clause-keeps
returns-then-found-eq0-clause-keeps c =
    let told = scanned_empty c.load-found.result c.args.plan c.if-found-eq0.true in
    keeps_as _ _ _ _ (c.load-found.ensures.2 c.args.plan _ c.requires.keeps) told

pub returns-then-found-eq0-clause-made : goal.returns-then-found-eq0-clause-made
returns-then-found-eq0-clause-made c = sym (scanned_empty c.load-found.result c.args.plan c.if-found-eq0.true)

pub returns-then-found-eq0-clause-looks : goal.returns-then-found-eq0-clause-looks
returns-then-found-eq0-clause-looks c = (keeps_on _ _ _ (c.load-found.ensures.2 c.args.plan _ c.requires.keeps)).1

pub returns-else-found-eq0-clause-keeps : goal.returns-else-found-eq0-clause-keeps
returns-else-found-eq0-clause-keeps c =
    let told = scanned_used c.load-found.result c.args.plan c.if-found-eq0.false in
    keeps_as _ _ _ _ (c.load-found.ensures.2 c.args.plan _ c.requires.keeps) told

pub returns-else-found-eq0-clause-made : goal.returns-else-found-eq0-clause-made
returns-else-found-eq0-clause-made c = sym (scanned_used c.load-found.result c.args.plan c.if-found-eq0.false)

pub returns-else-found-eq0-clause-looks : goal.returns-else-found-eq0-clause-looks
returns-else-found-eq0-clause-looks c = (keeps_on _ _ _ (c.load-found.ensures.2 c.args.plan _ c.requires.keeps)).1
