use Rattle.std.specs.Prelude.{Ok}
use Rattle.std.proofs.lemmas.Result.{on_ok_weaker}
use Rattle.kf_workers.proofs.board.WorkerBoard.list.Goals as goal

pub returns : goal.returns
returns g c = on_ok_weaker c.tell_names.result (λ same. (Ok c.in_ok-names.names, same)) c.tell_names.ensures.text
