use Rattle.std.proofs.Common.{subst, sym}
use Rattle.kf_tree.specs.Tours.{IsUpTo}
use Rattle.kf_tree.proofs.Tours.{first_up_to, next_up_to, ended, fewer_left}
use Rattle.kf_tree.proofs.post_order.keys_below.Goals as goal

pub visit-init : goal.visit-init
visit-init c = (
  subst (IsUpTo c.args.table.now c.args.top c.first_below-later.result.0) (sym c.new-keys.ensures.items) (first_up_to c.args.table.now c.requires.lawful.0 c.requires.lawful.1 c.args.top c.first_below-later.result.0 c.first_below-later.ensures.first),
  c.first_below-later.ensures.below,
)

pub visit-preserved : goal.visit-preserved
visit-preserved c = (
  next_up_to c.args.table.now c.requires.lawful.0 c.requires.lawful.1 c.args.top c.visit.current c.in-Some.next _ _ c.in-Some.ensures.next c.visit.invariant.0 c.in_ok-push.ensures.items,
  c.in-Some.ensures.later,
)

pub visit-smaller : goal.visit-smaller
visit-smaller c = fewer_left c.args.table.now c.requires.lawful.0 c.requires.lawful.1 c.args.top c.visit.current _ _ c.visit.invariant.0 c.in_ok-push.ensures.items

pub returns-clause-ordered : goal.returns-clause-ordered
returns-clause-ordered c = (ended c.args.table.now c.requires.lawful.0 c.requires.lawful.1 c.args.top c.visit.current _ _ c.in_default.ensures.end c.visit.invariant.0 c.in_ok-push-2.ensures.items).0

pub returns-clause-last : goal.returns-clause-last
returns-clause-last c = (ended c.args.table.now c.requires.lawful.0 c.requires.lawful.1 c.args.top c.visit.current _ _ c.in_default.ensures.end c.visit.invariant.0 c.in_ok-push-2.ensures.items).1
