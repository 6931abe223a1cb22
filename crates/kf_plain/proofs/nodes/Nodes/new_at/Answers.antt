use Rattle.kf_plain.proofs.Opening.{tied_opening, seen_opening}
use Rattle.kf_plain.proofs.HiddenMarks.{told_opening}
use Rattle.kf_plain.proofs.nodes.Nodes.new_at.Goals as goal

pub invariant_of-result : goal.invariant_of-result
invariant_of-result c = (
  tied_opening c.args.limits.slots c.args.start c.args.limits.holds c.in_ok-state.state c.in_ok-world.world c.args.limits.some_slot c.in_ok-state.ensures.made c.in_ok-world.ensures.opens,
  told_opening c.args.limits.slots c.args.start c.args.limits.holds c.in_ok-state.state c.in_ok-world.world c.in_ok-state.ensures.made c.in_ok-world.ensures.opens,
)

pub returns-clause-made : goal.returns-clause-made
returns-clause-made c = seen_opening c.args.limits.slots c.args.start c.args.limits.holds c.in_ok-state.state c.in_ok-world.world c.args.limits.some_slot c.in_ok-state.ensures.made c.in_ok-world.ensures.opens
