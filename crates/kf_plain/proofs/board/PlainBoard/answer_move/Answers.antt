use Rattle.std.proofs.Common.{true, false, ap, ◌∙◌, inl, inr}
use Rattle.kf_script.specs.ReplyText.{refusal_text}
use Rattle.kf_plain.proofs.board.PlainBoard.answer_move.Goals as goal

pub returns-in-Err : goal.returns-in-Err
returns-in-Err c =
    let (why, same) = c.in-Err.ensures.refused in
    elim why [
      | inl cause ↦ (false, rw cause (c.set_refusal.ensures, same))
      | inr wanting ↦ (true, (wanting.1, c.set_refusal.ensures ∙ ap refusal_text wanting.0, same))
    ]
