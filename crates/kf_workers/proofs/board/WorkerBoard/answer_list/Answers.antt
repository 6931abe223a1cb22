use Rattle.std.specs.Prelude.{Err}
use Rattle.kf_workers.proofs.board.WorkerBoard.answer_list.Goals as goal

pub returns-in-Err : goal.returns-in-Err
returns-in-Err g c = (Err c.in-Err.refusal, c.set_refusal.ensures)
