use Rattle.std.proofs.Common.{[], refl, subst}
use Rattle.kf_tree.specs.TreeLogs.{TreeLog}
use Rattle.kf_tree.specs.Tours.{HasPassed}
use Rattle.kf_tree.specs.declared.tour.Tour.{Tour}
use Rattle.kf_tree.proofs.Tours.{first_up_to}
use Rattle.kf_tree.proofs.state.State.tour.Goals as goal

pub returns-clause-first : goal.returns-clause-first
returns-clause-first c =
    let tour : Tour = record { top = c.args.top; key = c.first_below.result.0; passed = 0 } in
    subst (λ (s : TreeLog). HasPassed s.tree tour []) c.self.view_is record {
      up_to = first_up_to c.self.inside.table c.self.inside.root c.self.invariant.kept.lawful c.args.top c.first_below.result.0 c.first_below.ensures.first;
      counted = refl;
    }
