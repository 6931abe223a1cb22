use Rattle.std.proofs.Common.{sym, ◌∙◌}
use Rattle.kf_words.specs.Callers.{seat_view}
use Rattle.kf_shared.proofs.Hearing.{made_more, prefix_trans}
use Rattle.kf_shared.proofs.Finishing.{told_more, waits_first, waits_rested, waits_on, rested_all, was_ok}
use Rattle.kf_shared.proofs.Removed.{finished_on}
use Rattle.kf_shared.proofs.tree.SharedTree.finish_drained.Goals as goal

pub loop-init : goal.loop-init
loop-init g c = waits_first c.args.drained

pub loop-preserved-then-is_err : goal.loop-preserved-then-is_err
loop-preserved-then-is_err g c =
    let u = c.unlink_alone-unlinked in
    waits_rested c.args.drained c.loop.drained u.new.drained c.loop.invariant u.ensures.same u.ensures.later c.rest.new.self c.rest.ensures.as_before c.rest.ensures.rested

pub loop-preserved : goal.loop-preserved
loop-preserved g c =
    let u = c.unlink_alone-unlinked in
    waits_on c.args.drained c.loop.drained u.new.drained c.loop.invariant u.ensures.same u.ensures.later c.in-Err.back c.in-Err.ensures.same c.in-Err.ensures.made

pub returns-in-Ok-clause-rested : goal.returns-in-Ok-clause-rested
returns-in-Ok-clause-rested g c =
    let u = c.unlink_alone-unlinked in
    rested_all c.args.drained c.loop.drained u.new.drained c.loop.invariant u.ensures.same u.ensures.later c.in-Ok.parted c.in-Ok.ensures.made

pub returns-in-Ok-clause-later : goal.returns-in-Ok-clause-later
returns-in-Ok-clause-later g c =
    let u = c.unlink_alone-unlinked in
    prefix_trans c.args.drained.seen.steps u.new.drained.seen.steps c.in-Ok.parted.seen.steps
    (told_more c.args.drained c.loop.drained u.new.drained c.loop.invariant u.ensures.same u.ensures.later) (made_more _ (seat_view u.new.drained) (seat_view c.in-Ok.parted) c.in-Ok.ensures.made)

pub returns-in-Ok-clause-finished : goal.returns-in-Ok-clause-finished
returns-in-Ok-clause-finished g c =
    let u = c.unlink_alone-unlinked in
    finished_on c.args.drained c.loop.drained u.new.drained c.in-Ok.parted c.loop.invariant.same.key c.loop.invariant.later
    (made_more _ (seat_view u.new.drained) (seat_view c.in-Ok.parted) c.in-Ok.ensures.made) (was_ok u.result (sym c.is_err.ensures.value ∙ c.if-is_err.false) u.ensures.done)
