use Rattle.std.proofs.Common.{subst}
use Rattle.std.specs.Prelude.{◌≡◌, false, refl}
use Rattle.std.specs.Option.{option_map}
use Rattle.kf_script.specs.Answers.{AnswersRequest}
use Rattle.kf_script.specs.Requests.{request_of, request_words}
use Rattle.kf_rounds.proofs.runner.answer_line.Goals as goal

pub returns-in-Some : goal.returns-in-Some
returns-in-Some g c =
    let (starved, answered) = c.answer.ensures in
    let asks = subst (λ found. option_map request_words found ≡ request_of c.args.line.now) c.in-Some.is c.parse.ensures.value in
    (starved, subst (λ asked. AnswersRequest g.B.Board.step c.args.board.now asked starved c.answer.new.reply c.answer.new.self) asks answered)

pub returns-in-None : goal.returns-in-None
returns-in-None g c =
    let asks = subst (λ found. option_map request_words found ≡ request_of c.args.line.now) c.in-None.is c.parse.ensures.value in
    (false, subst (λ asked. AnswersRequest g.B.Board.step c.args.board.now asked false c.set_bad_line.new.self c.args.board.now) asks (refl, c.set_bad_line.ensures, refl))
