use Rattle.std.proofs.Common.{refl}
use Rattle.kf_tree.proofs.Tours.{down_none, down_more, down_smaller, down_end}
use Rattle.kf_tree.proofs.Later.{later_listed}
use Rattle.kf_tree.proofs.orders.first_below.Goals as goal

pub down-init : goal.down-init
down-init c = (down_none c.args.table.now c.requires.lawful.0 c.requires.lawful.1 c.args.top c.requires.linked, (λ other. absurd (other refl)), (λ later. later))

pub down-preserved : goal.down-preserved
down-preserved c =
    let listed = rw c.in-Some.ensures.split at c.children.ensures.listed in (
      down_more c.args.table.now c.requires.lawful.0 c.requires.lawful.1 c.args.top _ _ _ listed c.down.invariant.0,
      (λ other. later_listed c.args.table.now _ _ _ _ listed),
      (λ later. later_listed c.args.table.now _ _ _ _ listed),
    )

pub down-smaller : goal.down-smaller
down-smaller c = down_smaller c.args.table.now c.requires.lawful.0 c.requires.lawful.1 _ _ _ (rw c.in-Some.ensures.split at c.children.ensures.listed)

pub returns : goal.returns
returns c = record {
  first = down_end c.args.table.now c.requires.lawful.0 c.requires.lawful.1 c.args.top _ (rw c.in_default.ensures.empty at c.children.ensures.listed) c.down.invariant.0;
  below = c.down.invariant.1;
  later = c.down.invariant.2;
}
