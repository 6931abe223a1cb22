use Rattle.std.proofs.Common.{arith}
use Rattle.kf_core.specs.declared.caller.Caller.{Caller}
use Rattle.kf_core.specs.declared.caller.Phase.TheVariants.{Spent}
use Rattle.kf_plain.proofs.Releases.{may_release_next, released_next}
use Rattle.kf_plain.proofs.nodes.subtrees.release_from.Goals as goal

abbrev nobody : Caller
nobody = record { key = record { slot = 0; generation = 0 }; phase = Spent }

pub release-requires : goal.release-requires
release-requires c =
    let last = c.requires.last in
    let test = c.loop-done-test.true in
    record { may = may_release_next c.args.world.now c.loop-done.world c.args.first c.loop-done.done nobody c.loop-done.invariant (omega (arith, last, test)) c.requires.held }

pub loop-done-preserved : goal.loop-done-preserved
loop-done-preserved c =
    let last = c.requires.last in
    let test = c.loop-done-test.true in
    released_next c.args.world.now c.loop-done.world c.args.first c.loop-done.done nobody c.loop-done.invariant (omega (arith, last, test)) c.release.new.self c.release.ensures.step
