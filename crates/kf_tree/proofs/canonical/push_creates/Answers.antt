use Rattle.kf_tree.specs.Canonical.{create_of}
use Rattle.kf_tree.proofs.Collected.{collected_more}
use Rattle.kf_tree.proofs.canonical.push_creates.Goals as goal

pub loop-key-preserved : goal.loop-key-preserved
loop-key-preserved c = collected_more (create_of c.args.table.now) _ _ _ c.args.keys.now c.loop-key.key-index _ c.loop-key-test.true c.loop-key.invariant c.in_ok-push_create.ensures.pushed
