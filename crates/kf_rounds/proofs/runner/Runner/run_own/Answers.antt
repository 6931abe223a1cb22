use Rattle.std.proofs.Common.{◌≡◌, ◌<◌, ◌∙◌, [], ◌∷◌, List, ℕ, map, length, get_or, subst, sym, ap}
use Rattle.std.proofs.lemmas.List.{get_or-map, length-map}
use Rattle.kf_rounds.specs.Kinds.{KindOfLine, bad, own_command, command_in, commands_of}
use Rattle.kf_rounds.specs.KindViews.{kind_view}
use Rattle.kf_rounds.specs.Turns.{Tells, Adds}
use Rattle.kf_rounds.specs.Seats.{board_of, untaken}
use Rattle.kf_rounds.proofs.Telling.{told_next, told_part}
use Rattle.kf_rounds.proofs.runner.Runner.run_own.Goals as goal

pub returns-in_err-run_line : goal.returns-in_err-run_line
returns-in_err-run_line g c =
    let step = g.B.Board.step in
    let i : ℕ = c.loop-kind.kind-index in
    let item = c.kind-item.result in
    let ks : List KindOfLine = map kind_view c.args.kinds.now in
    let near : i < length ks = subst (λ n. i < n) (sym (length-map c.args.kinds.now kind_view)) c.loop-kind-test.true in
    let same : get_or ks i bad ≡ kind_view item = get_or-map kind_view c.args.kinds.now i item bad c.loop-kind-test.true ∙ ap kind_view (sym c.kind-item.is) in
    let stopped = c.in_err-run_line.ensures.stopped in
    let own : own_command c.args.who (get_or ks i bad) ≡ command_in (kind_view item) ∷ [] = ap (own_command c.args.who) same ∙ stopped.1 in
    record {
      tells = subst (λ rs. Tells step (board_of c.args.self.now) (commands_of c.args.who ks) rs (board_of c.run_line.new.self)) (sym stopped.0)
          (told_part step (board_of c.args.self.now) (board_of c.loop-kind.self) (board_of c.run_line.new.self) c.args.who ks i (untaken c.loop-kind.self) (command_in (kind_view item)) near c.loop-kind.invariant own);
    }

pub loop-kind-preserved : goal.loop-kind-preserved
loop-kind-preserved g c =
    let step = g.B.Board.step in
    let i : ℕ = c.loop-kind.kind-index in
    let item = c.kind-item.result in
    let ks : List KindOfLine = map kind_view c.args.kinds.now in
    let near : i < length ks = subst (λ n. i < n) (sym (length-map c.args.kinds.now kind_view)) c.loop-kind-test.true in
    let same : get_or ks i bad ≡ kind_view item = get_or-map kind_view c.args.kinds.now i item bad c.loop-kind-test.true ∙ ap kind_view (sym c.kind-item.is) in
    told_next step (board_of c.args.self.now) (board_of c.loop-kind.self) (board_of c.run_line.new.self) c.args.who ks i (untaken c.loop-kind.self) (untaken c.run_line.new.self) near c.loop-kind.invariant
    (subst (λ k. Adds step (own_command c.args.who k) (board_of c.loop-kind.self) (untaken c.loop-kind.self) (board_of c.run_line.new.self) (untaken c.run_line.new.self)) (sym same) c.in_ok-run_line.ensures.ran)
