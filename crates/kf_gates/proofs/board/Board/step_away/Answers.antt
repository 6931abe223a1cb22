use Rattle.std.proofs.Common.{rules, subst, sym}
use Rattle.kf_gates.specs.declared.view.GateView.{GateView}
use Rattle.kf_gates.specs.Rule.{IsPass}
use Rattle.kf_gates.proofs.Allowed.{look_back_allowed, off_pass}
use Rattle.kf_gates.proofs.board.Board.step_away.Goals as goal

pub load-requires : goal.load-requires
load-requires c =
    let pass = subst (λ (v : GateView). IsPass v) (sym c.step_back.ensures.made) (off_pass c.args.lane _ c.requires.counts) in
    (search rules, search rules, look_back_allowed _ _ _ _ pass)
