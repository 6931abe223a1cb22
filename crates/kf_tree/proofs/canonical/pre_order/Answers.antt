use Rattle.std.proofs.Common.{subst, sym}
use Rattle.kf_tree.proofs.PreOrder.{IsAheadOf, first_ahead, next_ahead, all_ahead, fewer_ahead}
use Rattle.kf_tree.proofs.canonical.pre_order.Goals as goal

pub visit-init : goal.visit-init
visit-init c = (
  subst (IsAheadOf c.args.table.now c.args.root) (sym c.in_ok-keys.ensures.items) (first_ahead c.args.table.now c.args.root c.requires.lawful),
  c.later_siblings-later.ensures.later,
)

pub visit-preserved : goal.visit-preserved
visit-preserved c = (
  next_ahead c.args.table.now c.args.root c.requires.lawful c.visit.current c.in-Some.next _ _ c.in-Some.ensures.next c.visit.invariant.0 c.in_ok-push.ensures.items,
  c.in-Some.ensures.later,
)

pub visit-smaller : goal.visit-smaller
visit-smaller c = fewer_ahead c.args.table.now c.args.root c.requires.lawful c.visit.current _ _ c.visit.invariant.0 c.in_ok-push.ensures.items

pub returns : goal.returns
returns c = record { ordered = all_ahead c.args.table.now c.args.root c.requires.lawful c.visit.current _ _ c.in_default.ensures.end c.visit.invariant.0 c.in_ok-push-2.ensures.items }
