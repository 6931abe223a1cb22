use Rattle.std.specs.Prelude.{Err}
use Rattle.kf_workers.proofs.board.WorkerBoard.answer_read_link.Goals as goal

pub returns-in-Err : goal.returns-in-Err
returns-in-Err g c = (Err c.in-Err.refusal, tt, c.set_refusal.ensures)
