use Rattle.std.proofs.Common.{◌∙◌}
use Rattle.std.specs.Prelude.{Ok}
use Rattle.std.proofs.lemmas.Result.{on_ok_weaker}
use Rattle.kf_workers.proofs.board.WorkerBoard.read_link.Goals as goal

pub returns : goal.returns
returns g c =
    on_ok_weaker c.set_text.result (λ same. (Ok c.in_ok-text.text.items, (_, _, _, c.in_ok-text.ensures.text), same ∙ c.as_slice.ensures.value)) c.set_text.ensures.text
