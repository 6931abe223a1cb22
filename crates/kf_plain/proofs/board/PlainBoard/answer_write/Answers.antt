use Rattle.kf_plain.proofs.Storing.{written}
use Rattle.kf_plain.proofs.board.PlainBoard.answer_write.Goals as goal

pub returns-in_default : goal.returns-in_default
returns-in_default c =
    let (opened, leads, (answer, told, writes)) = c.in_default.ensures.written in
    written _ c.args.file c.args.text.now _ _ opened answer leads told writes
