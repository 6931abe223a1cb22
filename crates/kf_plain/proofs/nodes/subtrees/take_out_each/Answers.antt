use Rattle.std.proofs.Common.{◌+◌, sym, subst}
use Rattle.std.proofs.lemmas.List.{take_more}
use Rattle.kf_core.specs.declared.key.Key.{Key}
use Rattle.kf_plain.proofs.TakenOut.{HasTaken, next_doomed, next_linked, next_uncaused, next_taken, next_still, next_spent}
use Rattle.kf_plain.proofs.nodes.subtrees.take_out_each.Goals as goal

abbrev none : Key
none = record { slot = 0; generation = 0 }

pub take_out-requires-clause-still : goal.take_out-requires-clause-still
take_out-requires-clause-still c = next_still c.args.world.now c.loop-done.world c.args.first c.args.keys.now c.loop-done.done none c.loop-done-test.true c.requires.held c.loop-done.invariant.1

pub take_out-requires-clause-doomed : goal.take_out-requires-clause-doomed
take_out-requires-clause-doomed c = next_doomed c.args.state.now c.loop-done.state c.args.world.now c.loop-done.world c.args.keys.now c.loop-done.done none c.loop-done.invariant.0 c.loop-done-test.true c.requires.different c.requires.doomed

pub take_out-requires-clause-linked : goal.take_out-requires-clause-linked
take_out-requires-clause-linked c = next_linked c.args.state.now c.loop-done.state c.args.world.now c.loop-done.world c.args.keys.now c.loop-done.done none c.loop-done.invariant.0 c.loop-done-test.true c.requires.different c.requires.doomed

pub take_out-requires-clause-no_cause : goal.take_out-requires-clause-no_cause
take_out-requires-clause-no_cause c = next_uncaused c.args.state.now c.loop-done.state c.args.world.now c.loop-done.world c.args.keys.now c.loop-done.done none c.loop-done.invariant.0 c.loop-done-test.true c.requires.different c.requires.doomed c.requires.children

pub loop-done-preserved : goal.loop-done-preserved
loop-done-preserved c = (
  subst (λ ks. HasTaken c.args.state.now c.take_out.new.state c.args.world.now c.take_out.new.world ks) (sym (take_more c.args.keys.now c.loop-done.done none c.loop-done-test.true))
      (next_taken c.args.state.now c.loop-done.state c.args.world.now c.loop-done.world c.args.keys.now c.loop-done.done none c.loop-done.invariant.0 c.loop-done-test.true c.requires.different c.requires.doomed
      (c.args.first + c.loop-done.done) _ c.take_out.new.state c.take_out.new.world c.take_out.ensures.accepted c.take_out.ensures.gone),
  next_spent c.args.world.now c.loop-done.world c.args.first c.args.keys.now c.loop-done.done none c.loop-done-test.true c.requires.held c.loop-done.invariant.1 c.take_out.new.world c.take_out.ensures.gone,
)
