use Rattle.std.specs.Prelude.{Err}
use Rattle.kf_pages.specs.declared.ops.FileError.TheVariants.{Refused}
use Rattle.kf_workers.proofs.board.WorkerBoard.answer_write.Goals as goal

pub returns-in-Err : goal.returns-in-Err
returns-in-Err g c = (Err (Refused c.in-Err.refusal), c.set_refusal.ensures)
