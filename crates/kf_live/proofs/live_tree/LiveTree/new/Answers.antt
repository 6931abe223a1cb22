use Rattle.std.proofs.Common.{rules, sym, subst, List, []}
use Rattle.kf_looks.specs.declared.view.Link.{Link}
use Rattle.kf_live.specs.Live.{Say}
use Rattle.kf_live.proofs.Alone.{said_alone}
use Rattle.kf_live.proofs.live_tree.LiveTree.new.Goals as goal

pub invariant_of-result : goal.invariant_of-result
invariant_of-result c = λ _. (
  search rules,
  subst (λ (links : List Link). Say links c.in_ok-state.state.tree) (sym c.in_ok-looks.ensures.empty)
      (subst (Say []) (sym c.in_ok-state.ensures.made.tree) (said_alone c.args.limits.slots c.args.root)),
)
