use Rattle.std.proofs.Common.{arith, rules}
use Rattle.std.specs.Prelude.{is_some, IsTrue}
use Rattle.kf_tree.proofs.OneClimb.{way_begins, way_goes_on, fewer_up}
use Rattle.kf_tree.proofs.links.ways_up.Goals as goal
use Rattle.kf_tree.proofs.links.ways_up.Goals.{then-is_some, else-is_some+then-is_some-2}

pub up-init : goal.up-init
up-init c = record {
  from = rw c.new-from.ensures.items (way_begins c.args.table.now c.args.root c.requires.rooted c.args.left c.requires.left);
  to = rw c.new-to.ensures.items (way_begins c.args.table.now c.args.root c.requires.rooted c.args.right c.requires.right);
}

pub up-smaller : goal.up-smaller
up-smaller c =
    let from = fewer_up c.args.table.now c.args.root c.requires.rooted c.args.left _ _ _ _ c.up.invariant.from c.in_ok-base.ensures.pushed c.in_ok-base.ensures.above in
    let to = fewer_up c.args.table.now c.args.root c.requires.rooted c.args.right _ _ _ _ c.up.invariant.to c.in_ok-other.ensures.pushed c.in_ok-other.ensures.above in
    elim c.if-is_some.branch [
      | then-is_some w ↦ (let some : IsTrue (is_some c.up.base) = search rules in omega (arith, from.1 some, to.0))
      | else-is_some+then-is_some-2 w ↦ (let some : IsTrue (is_some c.up.other) = search rules in omega (arith, from.0, to.1 some))
    ]

pub up-preserved : goal.up-preserved
up-preserved c = record {
  from = way_goes_on c.args.table.now c.args.root c.requires.rooted c.args.left _ _ _ _ c.up.invariant.from c.in_ok-base.ensures.pushed c.in_ok-base.ensures.above;
  to = way_goes_on c.args.table.now c.args.root c.requires.rooted c.args.right _ _ _ _ c.up.invariant.to c.in_ok-other.ensures.pushed c.in_ok-other.ensures.above;
}
