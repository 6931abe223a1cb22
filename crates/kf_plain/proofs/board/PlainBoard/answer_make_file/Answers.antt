use Rattle.std.proofs.Common.{true, false, Some, refl, ap, ◌∙◌, inl, inr}
use Rattle.kf_script.specs.ReplyText.{refusal_text}
use Rattle.kf_plain.proofs.board.PlainBoard.answer_make_file.Goals as goal

pub returns-in-Ok : goal.returns-in-Ok
returns-in-Ok c =
    let (is_next, (spot, leads, now)) = c.in-Ok.ensures.made in
    (false, (Some c.in-Ok.key, is_next, rw leads (c.in-Ok.key, refl, c.set_key.ensures, now)))

pub returns-in-Err : goal.returns-in-Err
returns-in-Err c =
    let (next, is_next, (why, same)) = c.in-Err.ensures.refused in
    elim why [
      | inl cause ↦ (false, (next, is_next, rw cause (c.set_refusal.ensures, same)))
      | inr wanting ↦ (true, ((next, is_next, wanting.1), c.set_refusal.ensures ∙ ap refusal_text wanting.0, same))
    ]
