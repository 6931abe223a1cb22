use Rattle.std.proofs.Common.{true}
use Rattle.kf_words.specs.Callers.{seat_view}
use Rattle.kf_words.specs.declared.sight.StepKind.TheVariants.{LooksHidden as looks_hidden}
use Rattle.kf_shared.proofs.Alone.{late_added}
use Rattle.kf_shared.proofs.Hearing.{heard_told, made_more, waited_more}
use Rattle.kf_files.proofs.telling.hide_and_tell.Goals as goal

pub returns-clause-looked : goal.returns-clause-looked
returns-clause-looked g c =
    let shut = c.end_hiding.ensures.closed in
    (seat_view c.in_ok-hiding.hiding, seat_view c.end_hiding.new.hiding, c.in_ok-hiding.ensures.made, heard_told c.in_ok-hiding.hiding c.end_hiding.new.hiding shut.heard shut.later, c.wait_hidden.ensures.waited)

pub returns-clause-alone : goal.returns-clause-alone
returns-clause-alone g c =
    late_added c.args.editor c.hide.new.self c.args.hold c.in_ok-hiding.hiding c.end_hiding.new.hiding c.wait_hidden.result _
    (made_more _ (seat_view c.args.hold) (seat_view c.in_ok-hiding.hiding) c.in_ok-hiding.ensures.made) c.in_ok-hiding.ensures.noted c.end_hiding.ensures.closed
    (waited_more looks_hidden (λ _. true) (seat_view c.end_hiding.new.hiding) (seat_view c.wait_hidden.result) c.wait_hidden.ensures.waited)
