use Rattle.kf_words.specs.Callers.{seat_view}
use Rattle.kf_shared.proofs.Finishing.{seat_on}
use Rattle.kf_shared.proofs.Hearing.{prefix_self, prefix_trans, waited_more}
use Rattle.kf_shared.proofs.Removed.{finished_on}
use Rattle.kf_shared.proofs.tree.SharedTree.finish.Goals as goal

pub returns-clause-same : goal.returns-clause-same
returns-clause-same g c = seat_on c.args.hold c.wait_drained-drained.result c.finish_drained.result c.wait_drained-drained.ensures.same c.finish_drained.ensures.same

pub returns-clause-waited : goal.returns-clause-waited
returns-clause-waited g c = (seat_view c.wait_drained-drained.result, c.wait_drained-drained.ensures.waited, c.finish_drained.ensures.rested)

pub returns-clause-later : goal.returns-clause-later
returns-clause-later g c =
    prefix_trans c.args.hold.seen.steps c.wait_drained-drained.result.seen.steps c.finish_drained.result.seen.steps
    (waited_more _ _ (seat_view c.args.hold) (seat_view c.wait_drained-drained.result) c.wait_drained-drained.ensures.waited) c.finish_drained.ensures.later

pub returns-clause-finished : goal.returns-clause-finished
returns-clause-finished g c =
    finished_on c.args.hold c.wait_drained-drained.result c.finish_drained.result c.finish_drained.result c.wait_drained-drained.ensures.same.key
    (waited_more _ _ (seat_view c.args.hold) (seat_view c.wait_drained-drained.result) c.wait_drained-drained.ensures.waited) (prefix_self c.finish_drained.result.seen.steps) c.finish_drained.ensures.finished
