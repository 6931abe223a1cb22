use Rattle.std.proofs.Common.{rules}
use Rattle.kf_gates.proofs.Allowed.{keeps_on, shut_allowed}
use Rattle.kf_gates.proofs.board.Board.shut.Goals as goal

pub store-requires : goal.store-requires
store-requires c = (search rules, search rules, shut_allowed _ _ _ _ c.args.plan _ _ c.requires.keeps (search rules))

pub returns-clause-keeps : goal.returns-clause-keeps
returns-clause-keeps c = (keeps_on _ _ _ (c.store.ensures.2 c.args.plan _ c.requires.keeps)).0

pub returns-clause-looks : goal.returns-clause-looks
returns-clause-looks c = (keeps_on _ _ _ (c.store.ensures.2 c.args.plan _ c.requires.keeps)).1
